-- `des_cipher::boxes::boxes` meets its contract: each of the 512 numbers is computed from its box, and is the array's.
-- Assumes nothing.
use mathlib.Core.Path.{refl}
use Rattle.des.specs.Blocks.{continued, permuted}
use Rattle.des.specs.Cipher.{selected}
use Rattle.des_cipher.specs.Internal.Boxes.{box_array}
use Rattle.des_cipher.proofs.boxes.boxes.Goals as goal

pub returns : goal.returns
unfolding box_array selected permuted continued
returns c = refl
