use Prim.Native.Nat.{◌-◌}
use lib.ListN.{length}
use Rattle.telnet_data.proofs.Copies.{Put}
use Rattle.telnet_data.proofs.copy_run.Given as goal

abbrev pub invariant-loop-k : goal.invariant-loop-k
invariant-loop-k l = Put l.s l.at l.initial.out l.to l.i l.k l.out

abbrev pub decreases-loop-k : goal.decreases-loop-k
decreases-loop-k l = length l.out - l.k
