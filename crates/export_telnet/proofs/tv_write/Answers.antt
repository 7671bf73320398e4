-- `export_telnet::tv_write` meets its contract: by whether the numbers name a kind. Assumes nothing.
use Rattle.std.specs.Prelude.{None, Some, Err}
use mathlib.Core.Path.{◌≡◌, refl, sym}
use Rattle.export.specs.Numbers.{kind_named, written_numbers}
use Rattle.refusal.specs.declared.Refusal.TheVariants.{NotWritable}
use Rattle.export.proofs.Numbered.{by-numbers}
use Rattle.export_telnet.proofs.tv_write.Goals as goal

pub returns-in_default : goal.returns-in_default
returns-in_default c =
    let a = c.args in
    let e : kind_named a.what a.code a.option ≡ None = sym c.in_default.ensures in
    rw e (by-numbers written_numbers {a = Err NotWritable} c.written_numbers.ensures refl)

pub returns : goal.returns
returns c =
    let a = c.args in
    let e : kind_named a.what a.code a.option ≡ Some c.in-Some.kind = sym c.in-Some.ensures in
    rw e (by-numbers written_numbers c.written_numbers-2.ensures c.write.ensures)
