-- `des_cipher::cipher::encipher` meets its contract: the block under the round keys of the key. Assumes nothing.
use mathlib.Core.Path.{ap, ◌∙◌}
use Rattle.des.specs.Cipher.{output}
use Rattle.des_cipher.proofs.cipher.encipher.Goals as goal

pub returns : goal.returns
returns c = c.encipher_with.ensures ∙ ap (λ ks. output ks c.args.block) c.key_schedule.ensures
