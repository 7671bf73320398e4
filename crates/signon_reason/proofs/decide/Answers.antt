-- `signon_reason::decide` meets its contract. Assumes nothing.
use Rattle.std.specs.Prelude.{None, Some, Ok}
use mathlib.Core.Path.{ap, ◌∙◌}
use Rattle.std.proofs.lemmas.Result.{err_from_is_err_and}
use Rattle.env.specs.Numbers.{variables_held}
use Rattle.signon_reason.proofs.Deciding.{Decides, decides}
use Rattle.signon_reason.proofs.decide.Goals.{After-find}
use Rattle.signon_reason.proofs.decide.Goals as goal

told : (c : After-find) → let a = c.args in Decides a.server_seed.now a.table.now (variables_held a.bytes.now a.numbers.now) c.find.result
told c =
    let a = c.args in
    decides a.server_seed.now a.table.now (variables_held a.bytes.now a.numbers.now) (λ i. (c.type_inv.table i).fits)
    c.user_of.result.now c.user_of.ensures c.find.result c.find.ensures

pub returns-in_err-entry : goal.returns-in_err-entry
returns-in_err-entry c =
    let p = err_from_is_err_and c.from_residual.result c.from_residual.ensures.1 in
    let t = told (goal.at.returns-in_err-entry c).After-find in
    rw (p.1, p.2) (rw c.in_err-entry.was at t)

pub returns-in-Some : goal.returns-in-Some
returns-in-Some c =
    let t = told (goal.at.returns-in-Some c).After-find in
    (rw c.in_ok-entry.was at t) (Some c.in-Some.reason) c.in-Some.ensures

pub returns-in-Some-entry : goal.returns-in-Some-entry
returns-in-Some-entry c =
    let t = told (goal.at.returns-in-Some-entry c).After-find in
    ap Ok c.with_profile.ensures ∙ (rw (c.in_ok-entry.was, c.in-Some-entry.is) at t) None c.in_default.ensures

pub returns-in-None : goal.returns-in-None
returns-in-None c =
    let t = told (goal.at.returns-in-None c).After-find in
    (rw (c.in_ok-entry.was, c.in-None.is) at t) None c.in_default.ensures
