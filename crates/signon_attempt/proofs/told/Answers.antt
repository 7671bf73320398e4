-- `signon_attempt::told` meets its contract. Assumes nothing.
use mathlib.Core.Path.{ap, ◌∙◌}
use Rattle.env_search.specs.Theorems.{value_at}
use Rattle.env_search.proofs.Found.{finds-the-value}
use Rattle.signon_attempt.proofs.told.Goals as goal

pub returns-in_err-place : goal.returns-in_err-place
unfolding value_at
returns-in_err-place c =
    let a = c.args in
    rw c.from_residual.ensures
    (ap (value_at a.bytes.now) c.in_err-place.ensures ∙ finds-the-value a.kind a.name.now a.bytes.now a.numbers.now)

pub returns : goal.returns
unfolding value_at
returns c =
    let a = c.args in
    rw c.part.ensures
    (ap (value_at a.bytes.now) c.in_ok-place.ensures ∙ finds-the-value a.kind a.name.now a.bytes.now a.numbers.now)
