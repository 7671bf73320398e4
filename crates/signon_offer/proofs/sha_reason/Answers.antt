-- `signon_offer::sha_reason` meets its contract. Assumes nothing.
use mathlib.Core.Path.{ap, ◌∙◌}
use Rattle.password_check.specs.Gives.{gives_sha}
use Rattle.signon_offer.specs.Internal.Offers.{by_token}
use Rattle.signon_offer.proofs.sha_reason.Goals as goal

pub returns : goal.returns
returns c =
    let a = c.args in
    c.by_token.ensures
    ∙ ap by_token
    (c.gives_sha.ensures ∙ ap (λ t. gives_sha t a.name.now a.server_seed.now a.client_seed.now a.offered.now) c.sha_token-token.ensures)
