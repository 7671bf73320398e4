-- `show_case::begin_case` meets its contract. Assumes nothing.
use mathlib.Core.Path.{ap, ◌∙◌}
use Rattle.show.specs.Promise.{hex_into}
use Rattle.show_case.proofs.begin_case.Goals as goal

pub returns : goal.returns
returns c =
    let case = c.args.case.now in
    c.read_hex.ensures ∙ ap (λ text. hex_into text case) c.digits.ensures
