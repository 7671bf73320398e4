-- `sha1_block::constant` meets its contract: each `return` is one of the four cases. Assumes nothing.
use Rattle.std.proofs.Common.{◌*◌, sym, arith}
use Rattle.sha1_block.proofs.Rounds.{first, second, third, fourth}
use Rattle.sha1_block.proofs.constant.Goals as goal

pub returns-then-stage-lt1 : goal.returns-then-stage-lt1
returns-then-stage-lt1 c = sym (first _ _ _ _ (20 * c.args.stage) (omega arith))

pub returns-then-stage-lt2 : goal.returns-then-stage-lt2
returns-then-stage-lt2 c = sym (second _ _ _ _ (20 * c.args.stage) (omega arith) (omega arith))

pub returns-then-stage-lt3 : goal.returns-then-stage-lt3
returns-then-stage-lt3 c = sym (third _ _ _ _ (20 * c.args.stage) (omega arith) (omega arith))

pub returns : goal.returns
returns c = sym (fourth _ _ _ _ (20 * c.args.stage) (omega arith))
