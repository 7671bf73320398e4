use mathlib.Core.Path.{◌≡◌}
use lib.ListN.{length, take, drop}
use Rattle.octets.specs.Lent.{overwrite}
use Rattle.octets_marked.proofs.copy_eight.Given as goal

abbrev pub invariant-loop-j : goal.invariant-loop-j
invariant-loop-j l = (length l.out ≡ length l.initial.out) × (l.out ≡ overwrite l.initial.out l.to (take l.j (drop l.from l.bytes)))
