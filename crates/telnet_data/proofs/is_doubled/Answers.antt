-- `telnet_data::is_doubled` meets its contract: the two bytes there, or that there are not two, decide. Assumes nothing.
use mathlib.Core.Path.{sym, ◌∙◌}
use native.Mathlib.Omega.{arith}
use lib.ListN.{get_or}
use borrow.Author.Tests.{eq-eqb, ne_eqb}
use Rattle.telnet.specs.Event.{iac}
use Rattle.telnet_data.proofs.Stretches.{doubled-short, doubled-pair}
use Rattle.telnet_data.proofs.is_doubled.Goals as goal

pub returns-then-s-at : goal.returns-then-s-at
returns-then-s-at c = sym (doubled-short c.args.s.now c.args.at (omega arith))

pub returns-then-s-at-lt2 : goal.returns-then-s-at-lt2
returns-then-s-at-lt2 c = sym (doubled-short c.args.s.now c.args.at (omega arith))

pub returns-then-s-at-2 : goal.returns-then-s-at-2
returns-then-s-at-2 c =
    let a = c.args in
    sym (doubled-pair a.s.now a.at (omega arith) ∙ rw (eq-eqb (get_or a.s.now a.at 0) iac c.if-s-at-2.true))

pub returns-else-s-at-2 : goal.returns-else-s-at-2
returns-else-s-at-2 c =
    let a = c.args in
    sym (doubled-pair a.s.now a.at (omega arith) ∙ rw (ne_eqb (get_or a.s.now a.at 0) iac c.if-s-at-2.false))
