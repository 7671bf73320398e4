-- `signon_offer::offer_reason` meets its contract. Assumes nothing.
use mathlib.Core.Path.{sym, ◌∙◌}
use native.Mathlib.Omega.{arith}
use Rattle.profile.specs.Table.{profile_in}
use Rattle.signon_offer.proofs.Rules.{clear-offer, seed-length, des-offer, sha-offer, substitute-length}
use Rattle.signon_offer.proofs.offer_reason.Goals as goal

pub returns-then-is_clear : goal.returns-then-is_clear
returns-then-is_clear c =
    let a = c.args in
    c.clear_reason.ensures
    ∙ clear-offer (profile_in a.table.now a.at) a.name.now a.server_seed.now a.client_seed.now a.offered.now
    (sym c.is_clear.ensures ∙ c.if-is_clear.true)

pub returns-then-client_seed-ne-SEED_LENGTH : goal.returns-then-client_seed-ne-SEED_LENGTH
returns-then-client_seed-ne-SEED_LENGTH c =
    let a = c.args in
    seed-length (profile_in a.table.now a.at) a.name.now a.server_seed.now a.client_seed.now a.offered.now
    (sym c.is_clear.ensures ∙ c.if-is_clear.false) (λ e. omega arith)

pub returns-then-offered-eq-DES_LENGTH : goal.returns-then-offered-eq-DES_LENGTH
returns-then-offered-eq-DES_LENGTH c =
    let a = c.args in
    c.des_reason.ensures
    ∙ des-offer (profile_in a.table.now a.at) a.name.now a.server_seed.now a.client_seed.now a.offered.now
    (sym c.is_clear.ensures ∙ c.if-is_clear.false) (omega arith) (omega arith)

pub returns-then-offered-eq-SHA_LENGTH : goal.returns-then-offered-eq-SHA_LENGTH
returns-then-offered-eq-SHA_LENGTH c =
    let a = c.args in
    c.sha_reason.ensures
    ∙ sha-offer (profile_in a.table.now a.at) a.name.now a.server_seed.now a.client_seed.now a.offered.now
    (sym c.is_clear.ensures ∙ c.if-is_clear.false) (omega arith) (omega arith)

pub returns : goal.returns
returns c =
    let a = c.args in
    substitute-length (profile_in a.table.now a.at) a.name.now a.server_seed.now a.client_seed.now a.offered.now
    (sym c.is_clear.ensures ∙ c.if-is_clear.false) (omega arith) (λ e. omega arith) (λ e. omega arith)
