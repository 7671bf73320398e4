-- `password_check::gives_sha` meets its contract. Assumes nothing.
use mathlib.Core.Path.{◌≡◌, ap, ◌∙◌}
use Rattle.password_check.specs.Gives.{sha_length, gives_sha}
use Rattle.password_check.proofs.Offers.{hash_gives, refused, compared, other_length, other-seeds, sha-given}
use mathlib.Core.Bool.{not}
use Rattle.password_check.proofs.gives_sha.Goals.{After-sha_substitute}
use Rattle.password_check.proofs.gives_sha.Goals as goal

pub returns-in_default : goal.returns-in_default
unfolding gives_sha
returns-in_default c =
    let s = c.args in
    other_length sha_length s.token.now s.server_seed.now s.client_seed.now _ c.in_default.ensures.1

pub returns-then-not-are_seeds : goal.returns-then-not-are_seeds
unfolding gives_sha
returns-then-not-are_seeds c =
    let s = c.args in
    other-seeds sha_length s.token.now s.server_seed.now s.client_seed.now _
    c.are_seeds.result c.are_seeds.ensures (ap not c.if-not-are_seeds.true)

-- what the answered hash gives is what is asked for
answered : (c : After-sha_substitute)
    → let a = c.args in
    hash_gives c.sha_substitute.result a.offered.now
    ≡ gives_sha a.token.now a.name.now a.server_seed.now a.client_seed.now a.offered.now
answered c =
    let a = c.args in
    let whole = c.in-Ok.ensures.1 in
    ap (λ x. hash_gives x a.offered.now) c.sha_substitute.ensures
    ∙ rw (whole.same, c.word_64-server.ensures, c.word_64-client.ensures)
    (sha-given a.token.now a.name.now a.server_seed.now a.client_seed.now a.offered.now
    c.are_seeds.result c.are_seeds.ensures (ap not c.if-not-are_seeds.false) whole.long
    (λ i. (c.type_inv.server_seed i).fits)
    (λ i. (c.type_inv.client_seed i).fits))

pub returns-in_default-sha_substitute : goal.returns-in_default-sha_substitute
returns-in_default-sha_substitute c =
    refused (λ bytes. bytes) c.sha_substitute.result c.args.offered.now _ c.in_default-sha_substitute.is
    ∙ answered (goal.at.returns-in_default-sha_substitute c).After-sha_substitute

pub returns : goal.returns
returns c =
    c.same.ensures ∙ compared (λ bytes. bytes) c.sha_substitute.result c.args.offered.now _ c.in-Ok-sha_substitute.is
    ∙ answered (goal.at.returns c).After-sha_substitute
