use mathlib.Core.Path.{◌≡◌}
use Prim.Native.Nat.{◌^◌, ◌<◌}
use lib.ListN.{drop}
use Rattle.des.specs.Blocks.{permuted}
use Rattle.des.specs.Cipher.{preoutput, output}
use Rattle.des.specs.Tables.{IP⁻¹}
use Rattle.des_cipher.proofs.cipher.encipher_by.Given as goal

abbrev pub invariant-loop-key : goal.invariant-loop-key
invariant-loop-key l =
    (l.left < 2 ^ 32) × (l.right < 2 ^ 32) × (permuted 64 IP⁻¹ (preoutput l.left l.right (drop l.key-index l.keys)) ≡ output l.keys l.block)
