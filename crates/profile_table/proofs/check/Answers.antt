-- `profile_table::check` meets its contract. Assumes nothing.
use Rattle.std.proofs.lemmas.Result.{err_from_is_err_and}
use mathlib.Core.Path.{ap, ◌∙◌}
use Rattle.profile.specs.Table.{table_of}
use Rattle.profile_table.proofs.Whole.{count_of, counted}
use Rattle.profile_table.proofs.check.Goals as goal

pub returns-in_err-scan : goal.returns-in_err-scan
returns-in_err-scan c =
    let p = err_from_is_err_and c.from_residual.result c.from_residual.ensures.1 in
    rw (p.1, p.2) (ap count_of c.in_err-scan.ensures ∙ counted _ (table_of c.args.table.now))

pub returns : goal.returns
returns c = ap count_of c.in_ok-scan.ensures ∙ counted _ (table_of c.args.table.now)
