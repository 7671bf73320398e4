-- `profile_table::find` meets its contract. Assumes nothing.
use Rattle.std.proofs.lemmas.Result.{err_from_is_err_and}
use mathlib.Core.Path.{◌≡◌, sym, ap, ◌∙◌}
use Rattle.names.specs.Name.{raised}
use Rattle.profile.specs.Table.{table_of}
use Rattle.profile_table.specs.Answer.{found_in}
use Rattle.profile_table.proofs.Whole.{found_of, found-held, scan-held}
use Rattle.profile_table.proofs.find.Goals.{After-scan_table}
use Rattle.profile_table.proofs.find.Goals as goal

pub slice_bounds-scan_table-end : goal.slice_bounds-scan_table-end
slice_bounds-scan_table-end c =
    let n = c.profile_name-held in
    (found-held c.args.table.now c.args.name.now (λ i. (c.type_inv.table i).fits) n.result n.ensures).0

-- what the scan found is what is asked for
asked : (c : After-scan_table) → found_of c.scan_table.result ≡ found_in (raised c.args.name.now) (table_of c.args.table.now)
asked c =
    let n = c.profile_name-held in
    scan-held c.args.table.now c.args.name.now (λ i. (c.type_inv.table i).fits) n.result n.ensures c.scan_table.result c.scan_table.ensures

pub returns-in_err-scan : goal.returns-in_err-scan
returns-in_err-scan c =
    let p = err_from_is_err_and c.from_residual.result c.from_residual.ensures.1 in
    rw (p.1, p.2) (ap found_of (sym c.in_err-scan.was) ∙ asked (goal.at.returns-in_err-scan c).After-scan_table)

pub returns : goal.returns
returns c = ap found_of (sym c.in_ok-scan.was) ∙ asked (goal.at.returns c).After-scan_table
