use mathlib.Core.Path.{◌≡◌}
use Prim.Native.Nat.{◌*◌, ◌/◌, ◌≤◌}
use lib.ListN.{length, drop}
use Rattle.octets.specs.Lent.{overwrite}
use Rattle.show_numbers.specs.Numbers.{numbers_of}
use Rattle.show_numbers.proofs.put_numbers.Given as goal

abbrev pub invariant-loop-i : goal.invariant-loop-i
invariant-loop-i l =
    (l.n ≡ length l.bytes / 2) × (l.n ≤ length l.initial.numbers) × (length l.numbers ≡ length l.initial.numbers)
    × (overwrite l.numbers l.i (numbers_of (drop (2 * l.i) l.bytes)) ≡ overwrite l.initial.numbers 0 (numbers_of l.bytes))
