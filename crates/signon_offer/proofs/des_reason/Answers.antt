-- `signon_offer::des_reason` meets its contract. Assumes nothing.
use mathlib.Core.Path.{sym, ap, ◌∙◌}
use Rattle.password_check.specs.Gives.{gives_des}
use Rattle.signon_offer.specs.Internal.Offers.{by_token}
use Rattle.signon_offer.proofs.des_reason.Goals as goal

pub returns-then-not-des_allowed : goal.returns-then-not-des_allowed
returns-then-not-des_allowed c = rw (sym c.des_allowed.ensures ∙ c.if-not-des_allowed.true)

pub returns : goal.returns
returns c =
    let a = c.args in
    rw (sym c.des_allowed.ensures ∙ c.if-not-des_allowed.false)
    (c.by_token.ensures
    ∙ ap by_token
    (c.gives_des.ensures ∙ ap (λ t. gives_des t a.name.now a.server_seed.now a.client_seed.now a.offered.now) c.des_token-token.ensures))
