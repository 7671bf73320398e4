-- `show_case::title` meets its contract. Assumes nothing.
use mathlib.Core.Path.{◌≡◌, ◌∙◌}
use native.Mathlib.Omega.{arith}
use lib.ListN.{length}
use Rattle.octets.specs.Find.{up_to}
use Rattle.octets.specs.Part.{part}
use Rattle.show_case.specs.Case.{title_in}
use Rattle.show_case.proofs.Lines.{part-before}
use Rattle.show_case.proofs.title.Goals as goal

pub returns : goal.returns
unfolding part title_in
returns c =
    let line = c.args.line.now in
    let colon : c.find_byte-colon.result ≡ length (up_to 58 line) = omega (arith, c.find_byte-colon.ensures) in
    c.part.ensures ∙ rw colon (part-before 58 line)
