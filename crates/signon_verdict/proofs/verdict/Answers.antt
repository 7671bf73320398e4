-- `signon_verdict::verdict` meets its contract: the verdict is that of the reason. Assumes nothing.
use Rattle.std.specs.Prelude.{Ok}
use mathlib.Core.Path.{sym, ap, ◌∙◌}
use Rattle.std.proofs.lemmas.Result.{err_from_is_err_and}
use Rattle.signon.specs.Reason.{answer_for}
use Rattle.signon.proofs.Reasons.{verdict-of-its-reason}
use Rattle.signon_verdict.proofs.verdict.Goals as goal

pub returns-in_err-reason : goal.returns-in_err-reason
returns-in_err-reason c =
    let a = c.args in
    let p = err_from_is_err_and c.from_residual.result c.from_residual.ensures.1 in
    rw (p.1, p.2) (ap answer_for c.in_err-reason.ensures ∙ sym (verdict-of-its-reason a.server_seed.now a.table.now a.payload.now))

pub returns : goal.returns
returns c =
    let a = c.args in
    ap Ok c.verdict_for.ensures ∙ ap answer_for c.in_ok-reason.ensures ∙ sym (verdict-of-its-reason a.server_seed.now a.table.now a.payload.now)
