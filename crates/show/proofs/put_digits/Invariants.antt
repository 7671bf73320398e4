use mathlib.Core.Path.{◌≡◌}
use Prim.Native.Nat.{◌+◌, ◌≤◌}
use lib.ListN.{length, drop}
use Rattle.octets.specs.Lent.{overwrite}
use Rattle.show.specs.Hex.{digits_after}
use Rattle.show.proofs.put_digits.Given as goal

abbrev pub invariant-loop-b : goal.invariant-loop-b
invariant-loop-b l =
    (l.at + length (digits_after l.words l.bytes) ≤ length l.initial.out) × (length l.out ≡ length l.initial.out)
    × (l.end + length (digits_after l.words (drop l.b-index l.bytes)) ≡ l.at + length (digits_after l.words l.bytes))
    × (overwrite l.out l.end (digits_after l.words (drop l.b-index l.bytes)) ≡ overwrite l.initial.out l.at (digits_after l.words l.bytes))
