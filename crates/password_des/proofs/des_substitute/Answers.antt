-- `password_des::des_substitute` meets its contract. Assumes nothing.
use Rattle.std.proofs.Common.{sym, ap, ◌∙◌, Ok}
use Rattle.names.specs.Name.{profile_limit}
use Rattle.names.proofs.Text.{name-length}
use Rattle.password_des.specs.Answer.{des_substitute}
use mathlib.Core.Bool.{not}
use Rattle.password_des.proofs.des_substitute.Goals as goal

pub returns-then-not-is_name : goal.returns-then-not-is_name
unfolding des_substitute
returns-then-not-is_name c = rw (← c.is_name.ensures, c.if-not-is_name.true)

pub pw_sub-requires : goal.pw_sub-requires
pw_sub-requires c =
    let name = c.is_name in
    name-length profile_limit _ (sym name.ensures ∙ c.if-not-is_name.false)

pub returns : goal.returns
unfolding des_substitute
returns c = rw (← c.is_name.ensures, (ap not c.if-not-is_name.false)) (ap Ok c.pw_sub.ensures)
