use mathlib.Core.Path.{◌≡◌}
use Prim.Native.Nat.{ℕ, ◌+◌, ◌≤◌}
use lib.ListN.{length, drop}
use Rattle.octets_marked.specs.Marked.{marked}
use Rattle.octets_marked.proofs.marked_length.Given as goal

abbrev pub invariant-loop-b : goal.invariant-loop-b
invariant-loop-b l =
    (l.marks ≤ l.b-index) × ((mark : ℕ) → l.marks + l.b-index + length (marked mark l.low l.high (drop l.b-index l.bytes)) ≡ length (marked mark l.low l.high l.bytes))
