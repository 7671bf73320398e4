-- `password_check::gives_des` meets its contract. Assumes nothing.
use mathlib.Core.Path.{◌≡◌, ap, ◌∙◌}
use native.Mathlib.Omega.{arith}
use Rattle.octets.specs.Same.{same}
use Rattle.words.specs.BigEndian.{bytes}
use Rattle.password_check.specs.Gives.{des_length, gives_des}
use Rattle.password_check.proofs.Offers.{block_gives, refused, compared, other_length, other-seeds, des-given}
use mathlib.Core.Bool.{not}
use Rattle.password_check.proofs.gives_des.Goals.{After-des_substitute}
use Rattle.password_check.proofs.gives_des.Goals as goal

pub returns-then-token-ne-DES_LENGTH : goal.returns-then-token-ne-DES_LENGTH
unfolding gives_des
returns-then-token-ne-DES_LENGTH c =
    let s = c.args in
    other_length des_length s.token.now s.server_seed.now s.client_seed.now _ (omega arith)

pub returns-then-not-are_seeds : goal.returns-then-not-are_seeds
unfolding gives_des
returns-then-not-are_seeds c =
    let s = c.args in
    other-seeds des_length s.token.now s.server_seed.now s.client_seed.now _
    c.are_seeds.result c.are_seeds.ensures (ap not c.if-not-are_seeds.true)

-- what the answered block gives is what is asked for
answered : (c : After-des_substitute)
    → let a = c.args in
    block_gives c.des_substitute.result a.offered.now
    ≡ gives_des a.token.now a.name.now a.server_seed.now a.client_seed.now a.offered.now
answered c =
    let a = c.args in
    ap (λ x. block_gives x a.offered.now) c.des_substitute.ensures
    ∙ rw (c.word_64-block.ensures, c.word_64-server.ensures, c.word_64-client.ensures)
    (des-given a.token.now a.name.now a.server_seed.now a.client_seed.now a.offered.now
    c.are_seeds.result c.are_seeds.ensures (ap not c.if-not-are_seeds.false) (omega arith))

pub returns-in_default : goal.returns-in_default
returns-in_default c =
    refused (bytes 8) c.des_substitute.result c.args.offered.now _ c.in_default.is ∙ answered (goal.at.returns-in_default c).After-des_substitute

pub returns : goal.returns
returns c =
    c.same.ensures ∙ ap (λ b. same b c.args.offered.now) c.bytes_64.ensures
    ∙ compared (bytes 8) c.des_substitute.result c.args.offered.now _ c.in-Ok.is ∙ answered (goal.at.returns c).After-des_substitute
