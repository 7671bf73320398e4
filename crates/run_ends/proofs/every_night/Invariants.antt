-- `run_ends::every_night` is safe: no more runs are restless than were made. Assumes nothing.
use Rattle.std.proofs.Common.{◌≤◌}
use Rattle.run_ends.proofs.every_night.Given as goal

abbrev pub invariant-loop-run : goal.invariant-loop-run
invariant-loop-run l = l.restless ≤ l.run
