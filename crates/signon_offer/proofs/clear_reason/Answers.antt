-- `signon_offer::clear_reason` meets its contract. Assumes nothing.
use mathlib.Core.Path.{sym, ap, ◌∙◌}
use Rattle.password_check.specs.Gives.{gives_clear}
use Rattle.signon_offer.specs.Internal.Offers.{by_token}
use Rattle.signon_offer.proofs.clear_reason.Goals as goal

pub returns-then-not-is_password : goal.returns-then-not-is_password
returns-then-not-is_password c = rw (sym c.is_password.ensures ∙ c.if-not-is_password.true)

pub returns : goal.returns
returns c =
    let a = c.args in
    rw (sym c.is_password.ensures ∙ c.if-not-is_password.false)
    (c.by_token.ensures
    ∙ ap by_token (c.gives_clear.ensures ∙ ap (λ t. gives_clear t a.name.now a.offered.now) c.sha_token-token.ensures))
