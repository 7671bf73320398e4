-- `env_writer::longer_by_value` meets its contract: nothing, or VALUE and the value. Assumes nothing.
use mathlib.Core.Path.{ap}
use native.Mathlib.Omega.{arith}
use lib.ListN.{length}
use Rattle.octets.specs.Part.{part}
use Rattle.env_writer.proofs.Writing.{undefined-written, defined-written}
use Rattle.env_writer.proofs.WritingRecords.{Within, within, lent-size}
use Rattle.env_writer.proofs.longer_by_value.Goals.{Start}
use Rattle.env_writer.proofs.longer_by_value.Goals as goal

good : (c : Start) → Within c.args.bytes.now c.args.v
good c =
    within c.args.bytes.now c.args.v c.requires.1

pub returns-then-v-ne-DEFINED : goal.returns-then-v-ne-DEFINED
returns-then-v-ne-DEFINED c =
    let a = c.args in
    let v = a.v in
    omega (arith, c.requires.0, ap length (undefined-written v.mark (part a.bytes.now v.value_at v.value_length) c.if-v-ne-DEFINED.true))

pub overflow_add-value_end : goal.overflow_add-value_end
overflow_add-value_end c = omega (arith, good (goal.at.overflow_add-value_end c).Start)

pub slice_bounds-longer-end : goal.slice_bounds-longer-end
slice_bounds-longer-end c = (good (goal.at.slice_bounds-longer-end c).Start).value

pub returns : goal.returns
returns c =
    let a = c.args in
    let v = a.v in
    let value = part a.bytes.now v.value_at v.value_length in
    omega (
      arith,
      lent-size a.bytes.now v.value_at v.value_length,
      c.longer.ensures,
      ap length (defined-written v.mark value (omega arith)),
    )
