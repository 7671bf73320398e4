-- `show_case::digits` meets its contract. Assumes nothing.
use mathlib.Core.Path.{◌≡◌, ap, ◌∙◌}
use native.Mathlib.Omega.{arith}
use lib.ListN.{length, drop}
use Rattle.octets.specs.Find.{up_to}
use Rattle.show_case.specs.Case.{title_in, digits_in}
use Rattle.show_case.proofs.Lines.{part-from}
use Rattle.show_case.proofs.digits.Goals as goal

pub returns : goal.returns
unfolding title_in digits_in
returns c =
    let line = c.args.line.now in
    let colon : c.find_byte-colon.result ≡ length (up_to 58 line) = omega (arith, c.find_byte-colon.ensures) in
    c.part.ensures ∙ part-from c.part-rest.result.now 1
    ∙ ap (drop 1) (c.part-rest.ensures ∙ part-from line c.find_byte-colon.result ∙ ap (λ n. drop n line) colon)
