-- `password_check::gives_clear` meets its contract. Assumes nothing.
use mathlib.Core.Path.{◌≡◌, ap, ◌∙◌}
use Rattle.password_check.specs.Gives.{gives_clear}
use Rattle.password_check.proofs.Offers.{hash_gives, refused, compared, clear-given}
use Rattle.password_check.proofs.gives_clear.Goals.{After-sha_token}
use Rattle.password_check.proofs.gives_clear.Goals as goal

-- what the answered hash gives is what is asked for
answered : (c : After-sha_token)
    → let s = c.args in
    hash_gives c.sha_token.result s.token.now ≡ gives_clear s.token.now s.name.now s.offered.now
answered c =
    let s = c.args in
    ap (λ h. hash_gives h s.token.now) c.sha_token.ensures ∙ clear-given s.token.now s.name.now s.offered.now

pub returns-in-Ok : goal.returns-in-Ok
returns-in-Ok c =
    c.same.ensures ∙ compared (λ bytes. bytes) c.sha_token.result c.args.token.now _ c.in-Ok.is
    ∙ answered (goal.at.returns-in-Ok c).After-sha_token

pub returns-in-Err : goal.returns-in-Err
returns-in-Err c =
    refused (λ bytes. bytes) c.sha_token.result c.args.token.now _ c.in-Err.is ∙ answered (goal.at.returns-in-Err c).After-sha_token
