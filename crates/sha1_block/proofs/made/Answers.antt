-- `sha1_block::made` meets its contract: the words are those before the next. Assumes nothing.
use Rattle.std.proofs.Common.{sym, ◌∙◌, arith}
use Rattle.sha1_block.proofs.Schedule.{next-take}
use Rattle.sha1_block.proofs.made.Goals as goal

pub returns : goal.returns
returns c =
    let a = c.args in
    c.rotate_left_32.ensures ∙ sym (next-take a.t a.w.now (omega arith) (omega arith))
