-- `telnet_reader::command` meets its contract: what leads decides. Assumes nothing.
use mathlib.Core.Path.{sym, ◌∙◌}
use native.Mathlib.Omega.{arith}
use Rattle.telnet.specs.declared.Lead.TheVariants.{Faulty, Opens, Negotiates, Simple}
use Rattle.telnet.specs.Read.{after_lead}
use Rattle.telnet.specs.Write.{written}
use Rattle.telnet_reader.specs.Promise.{answered}
use Rattle.telnet_reader.proofs.Places.{iac-cut, iac-lead}
use Rattle.telnet_reader.proofs.command.Goals as goal

pub returns-then-after-s : goal.returns-then-after-s
returns-then-after-s c =
    let a = c.args in
    sym (iac-cut a.s.now a.at (omega arith))

pub returns-in-Faulty : goal.returns-in-Faulty
unfolding after_lead answered written
returns-in-Faulty c =
    let a = c.args in
    sym (iac-lead a.s.now a.at Faulty (omega arith) (sym c.lead_of.ensures ∙ c.in-Faulty.is))

pub returns-in-Opens : goal.returns-in-Opens
unfolding after_lead answered written
returns-in-Opens c =
    let a = c.args in
    c.subnegotiation.ensures
    ∙ sym (iac-lead a.s.now a.at Opens (omega arith) (sym c.lead_of.ensures ∙ c.in-Opens.is))

pub returns-in-Negotiates : goal.returns-in-Negotiates
unfolding after_lead answered written
returns-in-Negotiates c =
    let a = c.args in
    c.negotiation.ensures
    ∙ sym (iac-lead a.s.now a.at (Negotiates c.in-Negotiates.verb) (omega arith)
    (sym c.lead_of.ensures ∙ c.in-Negotiates.is))

pub returns-in-Simple : goal.returns-in-Simple
unfolding after_lead answered written
returns-in-Simple c =
    let a = c.args in
    sym (iac-lead a.s.now a.at Simple (omega arith) (sym c.lead_of.ensures ∙ c.in-Simple.is))
