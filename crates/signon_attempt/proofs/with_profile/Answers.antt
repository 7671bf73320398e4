-- `signon_attempt::with_profile` meets its contract. Assumes nothing.
use mathlib.Core.Path.{sym, ap, ◌∙◌}
use Rattle.env.specs.Numbers.{variables_held}
use Rattle.profile.specs.Table.{profile_in}
use Rattle.signon.specs.Reason.{reason_offered}
use Rattle.signon_attempt.proofs.Parting.{off, no-seed, no-offer, by-offer}
use Rattle.signon_attempt.proofs.with_profile.Goals as goal

pub returns-then-not-enabled : goal.returns-then-not-enabled
returns-then-not-enabled c =
    let a = c.args in
    off a.server_seed.now (variables_held a.bytes.now a.numbers.now) (profile_in a.table.now a.at) (sym c.if-not-enabled.ensures)

pub returns-in_default : goal.returns-in_default
returns-in_default c =
    let a = c.args in
    no-seed a.server_seed.now (variables_held a.bytes.now a.numbers.now) (profile_in a.table.now a.at) (sym c.if-not-enabled.ensures)
    (sym c.in_default.ensures)

pub returns-in_default-told : goal.returns-in_default-told
returns-in_default-told c =
    let a = c.args in
    no-offer a.server_seed.now (variables_held a.bytes.now a.numbers.now) (profile_in a.table.now a.at) (sym c.if-not-enabled.ensures)
    c.in-Some.client_seed.now (sym c.in-Some.ensures) (sym c.in_default-told.ensures)

pub returns : goal.returns
returns c =
    let a = c.args in
    let p = profile_in a.table.now a.at in
    c.offer_reason.ensures
    ∙ ap (λ n. reason_offered p n a.server_seed.now c.in-Some.client_seed.now c.in-Some-told.offered.now) c.user_of-name.ensures
    ∙ by-offer a.server_seed.now (variables_held a.bytes.now a.numbers.now) p (sym c.if-not-enabled.ensures)
    c.in-Some.client_seed.now (sym c.in-Some.ensures) c.in-Some-told.offered.now (sym c.in-Some-told.ensures)
