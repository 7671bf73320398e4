-- `sha1_block::word` meets its contract: one word fewer is to be taken, or to be made. Assumes nothing.
use Rattle.std.proofs.Common.{take, arith}
use Rattle.sha1_block.proofs.Schedule.{planned-taken, planned-made}
use Rattle.sha1_block.proofs.word.Goals as goal

pub returns-then-t-lt16 : goal.returns-then-t-lt16
returns-then-t-lt16 c =
    let a = c.args in
    rw c.taken.ensures (planned-taken a.block.now (take a.t a.w.now) a.t (omega arith) (omega arith))

pub returns : goal.returns
returns c =
    let a = c.args in
    rw c.made.ensures (planned-made a.block.now (take a.t a.w.now) a.t (omega arith) (omega arith) (omega arith))
