use Rattle.std.proofs.Common.{◌*◌}
use Rattle.sha1_block.specs.Held.{five}
use Rattle.sha1_block.specs.Internal.Between.{Carried}
use Rattle.sha1_block.proofs.twenty.Given as goal

abbrev pub invariant-loop-t : goal.invariant-loop-t
invariant-loop-t l =
    Carried l.block (20 * l.stage) l.initial.w (five l.initial.s) l.t l.w (five l.s)
