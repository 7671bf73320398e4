-- `telnet_writer::write_command` meets its contract. Assumes nothing.
use mathlib.Core.Path.{refl, sym, ◌∙◌}
use mathlib.Core.List.{[], ◌∷◌}
use Rattle.telnet.specs.Event.{command, iac}
use Rattle.telnet.specs.Write.{written, writable}
use Rattle.telnet_writer.specs.Promise.{unwritable}
use Rattle.telnet_writer.proofs.Writing.{not_written, not-fitting, fitting}
use Rattle.octets.proofs.Overwrite.{stored}
use Rattle.telnet_writer.proofs.write_command.Goals as goal

pub returns-then-not-is_simple : goal.returns-then-not-is_simple
unfolding unwritable writable
returns-then-not-is_simple c =
    let a = c.args in
    let s = c.is_simple in
    not_written (command a.c) a.out.now (sym s.ensures ∙ c.if-not-is_simple.true)

pub returns-then-out-lt2 : goal.returns-then-out-lt2
unfolding written writable
returns-then-out-lt2 c =
    let a = c.args in
    let s = c.is_simple in
    not-fitting (command a.c) a.out.now (sym s.ensures ∙ c.if-not-is_simple.false) c.if-out-lt2.true

pub returns : goal.returns
unfolding written writable
returns c =
    let a = c.args in
    let s = c.is_simple in
    let simple = sym s.ensures ∙ c.if-not-is_simple.false in
    fitting (command a.c) a.out.now simple c.if-out-lt2.false refl (stored (iac ∷ a.c ∷ []) a.out.now 0 c.if-out-lt2.false)
