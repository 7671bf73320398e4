use mathlib.Core.Path.{◌≡◌}
use lib.Dec.{ltb}
use lib.ListN.{length, drop}
use Rattle.octets.specs.Find.{up_to}
use Rattle.octets_find.proofs.is_among.Given as goal

abbrev pub invariant-loop-j : goal.invariant-loop-j
invariant-loop-j l = l.found ≡ ltb (length (up_to l.b (drop l.at l.text))) l.j
