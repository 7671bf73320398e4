-- `sha1_block::taken` meets its contract: the four bytes at a place. Assumes nothing.
use Rattle.std.proofs.Common.{◌*◌, sym, ap, ◌∙◌, arith}
use Rattle.words.specs.BigEndian.{number}
use Rattle.sha1_block.proofs.Schedule.{take-four}
use Rattle.sha1_block.proofs.taken.Goals as goal

pub returns : goal.returns
returns c =
    let a = c.args in
    c.word_32.ensures ∙ ap number (sym (take-four a.block.now (4 * a.t) (omega arith)))
