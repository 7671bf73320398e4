-- `telnet_line::line_text` meets its contract. Assumes nothing.
use native.Mathlib.Nat.{zero-add}
use Rattle.telnet_line.specs.Promise.{text_of_line}
use Rattle.telnet_line.proofs.line_text.Goals as goal

pub returns : goal.returns
unfolding text_of_line
returns g c =
    let p = c.compose-length.ensures in
    rw (p.bytes, p.after, zero-add, c.answer_phrase-phrase.ensures.says)
