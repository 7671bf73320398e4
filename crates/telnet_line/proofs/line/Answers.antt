-- `telnet_line::line` meets its contract. Assumes nothing.
use Rattle.std.specs.Prelude.{Ok}
use mathlib.Core.Path.{◌≡◌, sym, ap, ap₂, ◌∙◌}
use native.Mathlib.Omega.{arith}
use lib.ListN.{length}
use Rattle.octets.specs.Lent.{outcome}
use Rattle.octets.proofs.Promise.{front-short, front_fits}
use Rattle.telnet_line.specs.Line.{answer_text_by, line as line_of}
use Rattle.telnet_line.proofs.Few.{text-length, text-put, text-few}
use borrow.Author.Rules.{rules}
use Rattle.telnet_line.proofs.line.Goals as goal

pub returns-then-out-n : goal.returns-then-out-n
returns-then-out-n g c =
    let a = c.args in
    let x = line_of a.place (answer_text_by g.E.Numbered.number_of a.answer) in
    sym (front-short _ _ x a.out.now (omega (arith, text-length x c.line_text-text.ensures)))

pub slice_bounds-put-end : goal.slice_bounds-put-end
slice_bounds-put-end g c =
    let t = c.line_text-text in
    let all : length t.result.bytes ≡ 67 = search rules in
    omega (arith, all, text-length _ t.ensures, text-few _ t.ensures all)

pub returns : goal.returns
returns g c =
    let a = c.args in
    let x = line_of a.place (answer_text_by g.E.Numbered.number_of a.answer) in
    let n = text-length x c.line_text-text.ensures in
    let put = text-put x c.line_text-text.ensures a.out.now 0 (omega (arith, n)) c.put.ensures in
    ap₂ outcome (ap Ok n) put ∙ sym (front_fits _ _ x a.out.now (omega (arith, n)))
