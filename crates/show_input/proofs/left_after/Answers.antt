-- `show_input::left_after` meets its contract: what is left, and the part announced with it. Assumes nothing.
use mathlib.Core.Path.{ap, ◌∙◌}
use mathlib.Core.List.{List, ◌++◌}
use Prim.Native.Nat.{ℕ}
use lib.ListN.{drop}
use Rattle.show_input.specs.Cut.{announced_in}
use Rattle.show_input.proofs.Cutting.{left_by, rejoined}
use Rattle.show_input.proofs.left_after.Goals as goal

pub returns : goal.returns
returns c =
    let s = c.args in
    let from = drop s.at s.input.now in
    let there = c.from_place-rest.ensures in
    let body = c.from_place.ensures in
    let e = c.from_place-2.ensures ∙ left_by from _ _ _ there body c.length_of.ensures in
    (e, ap (λ (l : List ℕ). announced_in from ++ l) e ∙ rejoined from)
