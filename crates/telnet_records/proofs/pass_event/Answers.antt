-- `telnet_records::pass_event` meets its contract: an event is there, since data of the record are left. Assumes
-- nothing.
use Rattle.std.specs.Prelude.{Ok}
use mathlib.Core.Path.{sym, ap, ◌∙◌}
use native.Mathlib.Omega.{arith}
use lib.ListN.{length}
use Rattle.telnet_records.proofs.Gathering.{data-end, data-refused, event-passed}
use Rattle.telnet_records.proofs.pass_event.Goals as goal

pub returns-in-Ok-Some : goal.returns-in-Ok-Some
returns-in-Ok-Some c =
    let found = c.in-Ok-Some.found in
    event-passed c.requires found.kind found.length found.next (sym c.look.ensures ∙ c.in-Ok-Some.is ∙ ap Ok c.in-Ok-Some.field-0-is)

pub returns-in-Ok-None : goal.returns-in-Ok-None
returns-in-Ok-None c =
    let a = c.args in
    let p = c.requires in
    let e = sym c.look.ensures ∙ c.in-Ok-None.is ∙ ap Ok c.in-Ok-None.field-0-is in
    absurd (omega (arith, p.some, ap length (data-end a.s.now a.at p.within e)))

pub returns-in-Err : goal.returns-in-Err
returns-in-Err c =
    let a = c.args in
    let p = c.requires in
    let e = sym c.look.ensures ∙ c.in-Err.is in
    absurd (omega (arith, p.some, ap length (data-refused a.s.now a.at p.within c.in-Err.field-0 e)))
