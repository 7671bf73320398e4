use mathlib.Core.Path.{◌≡◌}
use Prim.Native.Nat.{◌+◌, ◌≤◌}
use lib.ListN.{length}
use Rattle.octets.specs.Decimal.{decimal}
use Rattle.octets.specs.Lent.{overwrite}
use Rattle.octets.proofs.put_digits.Given as goal

abbrev pub invariant-loop-rest : goal.invariant-loop-rest
invariant-loop-rest l =
    (l.end ≡ l.at + length (decimal l.rest)) × (l.end ≤ length l.initial.buffer) × (length l.buffer ≡ length l.initial.buffer) × (overwrite l.buffer l.at (decimal l.rest) ≡ overwrite l.initial.buffer l.at (decimal l.n))

abbrev pub decreases-loop-rest : goal.decreases-loop-rest
decreases-loop-rest l = l.rest
