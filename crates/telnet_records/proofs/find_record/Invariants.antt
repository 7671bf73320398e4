use mathlib.Core.Path.{◌≡◌}
use Prim.Native.Nat.{◌-◌, ◌≤◌}
use lib.ListN.{length}
use Rattle.telnet_records.specs.Internal.Gather.{sized_at}
use Rattle.telnet_records.proofs.find_record.Given as goal

abbrev pub invariant-loop-found : goal.invariant-loop-found
invariant-loop-found l = (l.i ≤ length l.s) × (l.n ≤ l.i) × (sized_at l.s l.n l.i ≡ sized_at l.s 0 l.at)

abbrev pub decreases-loop-found : goal.decreases-loop-found
decreases-loop-found l = length l.s - l.i
