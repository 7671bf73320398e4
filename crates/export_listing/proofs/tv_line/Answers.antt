-- `export_listing::tv_line` meets its contract: the numbers of what `line` answers on what `look` finds. Assumes
-- nothing.
use mathlib.Core.Path.{ap, ◌∙◌}
use Rattle.telnet_reader.specs.Promise.{Answer}
use Rattle.telnet_line.specs.Line.{answer_text, line}
use Rattle.refusal.specs.Written.{written_into}
use Rattle.export.specs.Numbers.{numbered, written_numbers}
use Rattle.export.proofs.Numbered.{by-numbers}
use Rattle.export_listing.proofs.tv_line.Goals as goal

pub returns : goal.returns
returns c =
    let a = c.args in
    by-numbers written_numbers c.written_numbers.ensures c.line.ensures
    ∙ ap (λ (x : Answer). numbered written_numbers (written_into (line a.at (answer_text x)) a.out.now)) c.look-answer.ensures
