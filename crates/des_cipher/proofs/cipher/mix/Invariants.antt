use mathlib.Core.Path.{◌≡◌}
use Prim.Native.Nat.{◌*◌, ◌^◌, ◌<◌}
use lib.ListN.{drop}
use Rattle.des.specs.Blocks.{continued, joined}
use Rattle.des_cipher.proofs.Mixing.{chosen}
use Rattle.des_cipher.proofs.cipher.mix.Given as goal

abbrev pub invariant-loop-j : goal.invariant-loop-j
invariant-loop-j l =
    (l.out < 2 ^ (4 * l.j)) × (continued 4 l.out (drop l.j (chosen l.r l.key)) ≡ joined 4 (chosen l.r l.key))
