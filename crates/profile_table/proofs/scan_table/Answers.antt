-- `profile_table::scan_table` meets its contract: 30 by the first byte alone. Assumes nothing.
use mathlib.Core.Path.{sym, ap, ◌∙◌}
use native.Mathlib.Omega.{arith}
use Rattle.profile_table.specs.Internal.Steps.{scanned}
use Rattle.profile_table.proofs.Whole.{no_table, other-version, by-records}
use Rattle.profile_table.proofs.scan_table.Goals as goal

pub returns-then-table-eq0 : goal.returns-then-table-eq0
returns-then-table-eq0 c =
    let a = c.args in
    sym (ap (scanned a.name.now) (no_table a.table.now (omega arith)))

pub returns-then-table-ne-TABLE_VERSION : goal.returns-then-table-ne-TABLE_VERSION
returns-then-table-ne-TABLE_VERSION c =
    let a = c.args in
    sym (ap (scanned a.name.now) (other-version a.table.now (omega arith) c.if-table-ne-TABLE_VERSION.true))

pub returns : goal.returns
returns c =
    let a = c.args in
    c.scan_records.ensures ∙ sym (ap (scanned a.name.now) (by-records a.table.now (omega arith) c.if-table-ne-TABLE_VERSION.false))
