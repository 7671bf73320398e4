use Prim.Native.Nat.{◌-◌}
use lib.ListN.{length}
use Rattle.telnet_data.proofs.Stretches.{Passed}
use Rattle.telnet_data.proofs.measure.Given as goal

abbrev pub invariant-loop-i : goal.invariant-loop-i
invariant-loop-i l = Passed l.s l.at l.i l.n

abbrev pub decreases-loop-i : goal.decreases-loop-i
decreases-loop-i l = length l.s - l.i
