-- `signon_reason::refuse` meets its contract: a fault of the table comes first. Assumes nothing.
use Rattle.std.specs.Prelude.{Ok, Err}
use Rattle.std.proofs.lemmas.Result.{err_from_is_err_and}
use Rattle.signon_reason.proofs.Deciding.{refuses}
use Rattle.signon_reason.proofs.refuse.Goals as goal

pub returns-in_err-check : goal.returns-in_err-check
returns-in_err-check c =
    let p = err_from_is_err_and c.from_residual.result c.from_residual.ensures.1 in
    rw (p.1, p.2) (refuses c.args.table.now c.args.refusal (Err _) c.in_err-check.ensures)

pub returns : goal.returns
returns c = refuses c.args.table.now c.args.refusal (Ok _) c.in_ok-check.ensures
