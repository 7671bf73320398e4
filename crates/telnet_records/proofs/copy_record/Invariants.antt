use mathlib.Core.Path.{◌≡◌}
use Prim.Native.Nat.{◌+◌, ◌-◌, ◌≤◌}
use lib.ListN.{length}
use Rattle.octets.specs.Lent.{overwrite}
use Rattle.telnet_records.specs.Internal.Gather.{data_at}
use Rattle.telnet_records.proofs.copy_record.Given as goal

abbrev pub invariant-loop-n : goal.invariant-loop-n
invariant-loop-n l =
    (l.i ≤ length l.s) × (length l.out ≡ length l.initial.out) × (l.total ≤ length l.initial.out) × (l.n + length (data_at l.s l.i) ≡ l.total)
    × (overwrite l.out l.n (data_at l.s l.i) ≡ overwrite l.initial.out 0 (data_at l.s l.at))

abbrev pub decreases-loop-n : goal.decreases-loop-n
decreases-loop-n l = length l.s - l.i
