-- `signon_attempt::without_profile` meets its contract. Assumes nothing.
use mathlib.Core.Path.{sym}
use Rattle.env.specs.Numbers.{variables_held}
use Rattle.signon_attempt.proofs.Parting.{panel, no-user, bad-name, good-name}
use Rattle.signon_attempt.proofs.without_profile.Goals as goal

pub returns-then-is_panel : goal.returns-then-is_panel
returns-then-is_panel c = panel (variables_held c.args.bytes.now c.args.numbers.now) (sym c.if-is_panel.ensures)

pub returns-in_default : goal.returns-in_default
returns-in_default c = no-user (variables_held c.args.bytes.now c.args.numbers.now) (sym c.if-is_panel.ensures) (sym c.in_default.ensures)

pub returns-then-not-is_name : goal.returns-then-not-is_name
returns-then-not-is_name c =
    bad-name (variables_held c.args.bytes.now c.args.numbers.now) (sym c.if-is_panel.ensures)
    c.in-Some.user.now (sym c.in-Some.ensures) (sym c.if-not-is_name.ensures)

pub returns : goal.returns
returns c =
    good-name (variables_held c.args.bytes.now c.args.numbers.now) (sym c.if-is_panel.ensures)
    c.in-Some.user.now (sym c.in-Some.ensures) (sym c.if-not-is_name.ensures)
