-- `password_des::des_token` meets its contract. Assumes nothing.
use Rattle.std.proofs.Common.{sym, ap, ◌∙◌, Ok}
use Rattle.names.specs.Name.{profile_limit}
use Rattle.password_des.specs.Answer.{des_password_limit, des_token}
use Rattle.names.proofs.Text.{name-length}
use mathlib.Core.Bool.{not}
use Rattle.password_des.proofs.des_token.Goals as goal

pub returns-then-not-is_name : goal.returns-then-not-is_name
unfolding des_token
returns-then-not-is_name c = rw (← c.is_name.ensures, c.if-not-is_name.true)

pub returns-then-not-is_name-2 : goal.returns-then-not-is_name-2
unfolding des_token
returns-then-not-is_name-2 c =
    rw (← c.is_name.ensures, (ap not c.if-not-is_name.false), ← c.is_name-2.ensures, c.if-not-is_name-2.true)

pub pw_token-requires : goal.pw_token-requires
pw_token-requires c =
    let name = sym c.is_name.ensures ∙ c.if-not-is_name.false in
    let password = sym c.is_name-2.ensures ∙ c.if-not-is_name-2.false in
    (name-length des_password_limit _ password, name-length profile_limit _ name)

pub returns : goal.returns
unfolding des_token
returns c =
    rw (← c.is_name.ensures, (ap not c.if-not-is_name.false), ← c.is_name-2.ensures, (ap not c.if-not-is_name-2.false)) (ap Ok c.pw_token.ensures)
