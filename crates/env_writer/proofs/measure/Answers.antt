-- `env_writer::measure` meets its contract: what was counted, with the variables that are left, is the whole. Assumes
-- nothing.
use mathlib.Core.Path.{refl, ap, ◌∙◌}
use Prim.Native.Nat.{◌/◌, ◌<◌}
use native.Mathlib.Omega.{arith}
use lib.ListN.{length}
use Rattle.env.specs.Write.{written_variable}
use Rattle.env.specs.Numbers.{record_width, variable_of, is_placed}
use Rattle.env_writer.proofs.WritingRecords.{good-from, length-written-from, written_none}
use Rattle.env_writer.proofs.measure.Goals as goal

pub loop-i-init : goal.loop-i-init
loop-i-init c = (omega arith, c.requires, refl)

pub returns-then-n-gt-PAYLOAD_LIMIT : goal.returns-then-n-gt-PAYLOAD_LIMIT
returns-then-n-gt-PAYLOAD_LIMIT c = omega (arith, c.loop-i.invariant.2)

pub longer_by_variable-n-requires : goal.longer_by_variable-n-requires
longer_by_variable-n-requires c =
    let a = c.args in
    let l = c.loop-i in
    let good = good-from a.bytes.now a.numbers.now l.i (omega arith) l.invariant.1 in
    (l.invariant.0, ap (λ r. is_placed a.bytes.now r) c.record_at.ensures ∙ good.0)

pub loop-i-preserved : goal.loop-i-preserved
loop-i-preserved c =
    let a = c.args in
    let l = c.loop-i in
    let t : l.i < length a.numbers.now / record_width = omega arith in
    let bytes = a.bytes.now in
    let this = ap (λ r. length (written_variable (variable_of bytes r))) c.record_at.ensures in
    let more = length-written-from bytes a.numbers.now l.i t in (
      omega (arith, c.longer_by_variable-n.ensures),
      (good-from bytes a.numbers.now l.i t l.invariant.1).1,
      omega (arith, c.longer_by_variable-n.ensures, this, more, l.invariant.2),
    )

pub returns : goal.returns
returns c =
    let a = c.args in
    let l = c.loop-i in
    omega (arith, ap length (written_none a.bytes.now a.numbers.now l.i (omega arith)), l.invariant.2)
