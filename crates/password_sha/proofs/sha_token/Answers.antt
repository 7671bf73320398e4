-- `password_sha::sha_token` meets its contract. Assumes nothing.
use mathlib.Core.Path.{sym, ap, ◌∙◌}
use Rattle.std.specs.Prelude.{Ok}
use Rattle.password_sha.specs.Answer.{sha_token}
use Rattle.password_sha.proofs.Texts.{password-length}
use mathlib.Core.Bool.{not}
use Rattle.password_sha.proofs.sha_token.Goals as goal

pub returns-then-not-is_name : goal.returns-then-not-is_name
unfolding sha_token
returns-then-not-is_name c = rw (← c.is_name.ensures, (ap not c.if-not-is_name.true))

pub returns-then-not-is_password : goal.returns-then-not-is_password
unfolding sha_token
returns-then-not-is_password c =
    rw (← c.is_name.ensures, (ap not c.if-not-is_name.false), ← c.is_password.ensures, (ap not c.if-not-is_password.true))

pub token_of-requires : goal.token_of-requires
token_of-requires c =
    let name = sym c.is_name.ensures ∙ c.if-not-is_name.false in
    let password = sym c.is_password.ensures ∙ c.if-not-is_password.false in
    (name, password-length _ password)

pub returns : goal.returns
unfolding sha_token
returns c =
    rw (← c.is_name.ensures, (ap not c.if-not-is_name.false), ← c.is_password.ensures, (ap not c.if-not-is_password.false)) (ap Ok c.token_of.ensures)
