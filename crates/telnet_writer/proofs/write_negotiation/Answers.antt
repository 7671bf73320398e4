-- `telnet_writer::write_negotiation` meets its contract. Assumes nothing.
use mathlib.Core.Path.{refl, ap, ◌∙◌}
use mathlib.Core.List.{[], ◌∷◌}
use native.Mathlib.Omega.{arith}
use lib.ListN.{length-set}
use Rattle.octets.specs.Lent.{overwrite}
use Rattle.telnet.specs.Event.{negotiation, iac}
use Rattle.telnet.specs.Write.{written, writable}
use Rattle.telnet_writer.proofs.Writing.{not-fitting, fitting}
use Rattle.octets.proofs.Overwrite.{stored}
use Rattle.telnet_writer.proofs.write_negotiation.Goals as goal

pub returns-then-out-lt3 : goal.returns-then-out-lt3
unfolding written writable
returns-then-out-lt3 c =
    let a = c.args in
    not-fitting (negotiation a.verb a.option) a.out.now refl (omega arith)

pub bounds-out-1 : goal.bounds-out-1
bounds-out-1 c = simp length-set (omega arith)

pub returns : goal.returns
unfolding written writable
returns c =
    let a = c.args in
    let o = a.out.now in
    let k = c.code-c in
    let e = stored (iac ∷ k.result ∷ a.option ∷ []) o 0 c.if-out-lt3.false in
    fitting (negotiation a.verb a.option) o refl c.if-out-lt3.false refl
    (e ∙ ap (λ v. overwrite o 0 (iac ∷ v ∷ a.option ∷ [])) k.ensures)
