-- `env_writer::all_placed` meets its contract: where the loop is, the records from there on decide. Assumes
-- nothing.
use mathlib.Core.Path.{◌≡◌, refl, sym, ap, ◌∙◌}
use mathlib.Core.Bool.{◌&&◌}
use native.Mathlib.Omega.{arith}
use Prim.Native.Nat.{◌+◌, ◌*◌}
use lib.ListN.{drop}
use Rattle.env.specs.Numbers.{record_width, is_placed, placed}
use Rattle.env_records.proofs.Steps.{placed-step, placed_end}
use Rattle.env_writer.proofs.all_placed.Goals.{After-is_placed}
use Rattle.env_writer.proofs.all_placed.Goals as goal

pub loop-i-init : goal.loop-i-init
loop-i-init c = refl

-- the records from the loop's place on, by the test of the one there
tested : (c : After-is_placed)
    → let a = c.args in
    let i = c.loop-i.i in
    placed a.bytes.now a.numbers.now ≡ (c.is_placed.result && placed a.bytes.now (drop (record_width * (i + 1)) a.numbers.now))
tested c =
    let a = c.args in
    let l = c.loop-i in
    let bytes = a.bytes.now in
    let here = ap (λ r. is_placed bytes r) (sym c.record_at.ensures) ∙ sym c.is_placed.ensures in
    sym l.invariant ∙ placed-step bytes a.numbers.now l.i (omega arith)
    ∙ ap (λ t. t && placed bytes (drop (record_width * (l.i + 1)) a.numbers.now)) here

pub returns-then-not-is_placed : goal.returns-then-not-is_placed
returns-then-not-is_placed c =
    sym (rw (c.if-not-is_placed.true) at (tested (goal.at.returns-then-not-is_placed c).After-is_placed))

pub loop-i-preserved : goal.loop-i-preserved
loop-i-preserved c = sym (rw (c.if-not-is_placed.false) at (tested (goal.at.loop-i-preserved c).After-is_placed))

pub returns : goal.returns
returns c =
    let a = c.args in
    sym (placed_end a.bytes.now a.numbers.now c.loop-i.i (omega arith)) ∙ c.loop-i.invariant
