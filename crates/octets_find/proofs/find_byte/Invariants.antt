use mathlib.Core.Path.{◌≡◌}
use Prim.Native.Nat.{◌+◌, ◌≤◌, max}
use lib.ListN.{length, drop}
use Rattle.octets.specs.Find.{up_to}
use Rattle.octets_find.proofs.find_byte.Given as goal

abbrev pub invariant-loop-i : goal.invariant-loop-i
invariant-loop-i l =
    (l.i + length (up_to l.b (drop l.i l.text)) ≡ l.at + length (up_to l.b (drop l.at l.text))) × (l.i ≤ max l.start (length l.text))
