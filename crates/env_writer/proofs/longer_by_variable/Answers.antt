-- `env_writer::longer_by_variable` meets its contract: the kind, the name, and the value. Assumes nothing.
use native.Mathlib.Omega.{arith}
use Rattle.env_writer.proofs.WritingRecords.{Within, within, lent-size, length-written}
use Rattle.env_writer.proofs.longer_by_variable.Goals.{Start}
use Rattle.env_writer.proofs.longer_by_variable.Goals as goal

good : (c : Start) → Within c.args.bytes.now c.args.v
good c =
    within c.args.bytes.now c.args.v c.requires.1

pub overflow_add-name_end : goal.overflow_add-name_end
overflow_add-name_end c = omega (arith, good (goal.at.overflow_add-name_end c).Start)

pub slice_bounds-longer-end : goal.slice_bounds-longer-end
slice_bounds-longer-end c = (good (goal.at.slice_bounds-longer-end c).Start).name

pub longer_by_value-requires : goal.longer_by_value-requires
longer_by_value-requires c = (omega (arith, c.longer-with_name.ensures), c.requires.1)

pub returns : goal.returns
returns c =
    let a = c.args in
    let bytes = a.bytes.now in
    let v = a.v in
    let name = lent-size bytes v.name_at v.name_length in
    omega (arith, length-written bytes v, name, c.longer_by_value.ensures, c.longer-with_name.ensures)
