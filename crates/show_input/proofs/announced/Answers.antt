-- `show_input::announced` meets its contract. Assumes nothing.
use mathlib.Core.Path.{◌∙◌}
use lib.ListN.{drop}
use Rattle.show_input.proofs.Cutting.{announced-by}
use Rattle.show_input.proofs.announced.Goals as goal

pub returns : goal.returns
returns c =
    let s = c.args in
    let there = c.from_place-rest.ensures in
    c.part.ensures ∙ announced-by (drop s.at s.input.now) _ _ there c.length_of.ensures
