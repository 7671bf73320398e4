-- `sha1_block::mix` meets its contract: each `return` is one of the four cases. Assumes nothing.
use Rattle.std.proofs.Common.{◌*◌, arith}
use Rattle.words.specs.Word.{Ch, Parity, Maj}
use Rattle.sha1_block.proofs.Rounds.{first, second, third, fourth}
use Rattle.sha1_block.proofs.mix.Goals as goal

pub returns-then-stage-lt1 : goal.returns-then-stage-lt1
unfolding Ch
returns-then-stage-lt1 c =
    let a = c.args in
    rw (first (Ch 32) Parity Maj Parity (20 * a.stage) (omega arith))

pub returns-then-stage-lt2 : goal.returns-then-stage-lt2
unfolding Parity
returns-then-stage-lt2 c =
    let a = c.args in
    rw (second (Ch 32) Parity Maj Parity (20 * a.stage) (omega arith) (omega arith))

pub returns-then-stage-lt3 : goal.returns-then-stage-lt3
unfolding Maj
returns-then-stage-lt3 c =
    let a = c.args in
    rw (third (Ch 32) Parity Maj Parity (20 * a.stage) (omega arith) (omega arith))

pub returns : goal.returns
unfolding Parity
returns c =
    let a = c.args in
    rw (fourth (Ch 32) Parity Maj Parity (20 * a.stage) (omega arith))
