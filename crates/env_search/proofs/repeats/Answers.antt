-- `env_search::repeats` meets its contract. The loop's invariant: there is a repeat among the records from i on if
-- there is one among all. Assumes nothing.
use mathlib.Core.Path.{sym, ◌∙◌}
use native.Mathlib.Omega.{arith}
use Rattle.env_search.proofs.SearchSteps.{repeated-step, repeated-end}
use Rattle.env_search.proofs.repeats.Goals as goal

pub returns-then-occurs_after : goal.returns-then-occurs_after
returns-then-occurs_after c =
    let l = c.loop-i in
    let s = c.args in
    sym (sym l.invariant ∙ rw (repeated-step s.bytes.now s.numbers.now l.i (omega arith), ← c.occurs_after.ensures, c.if-occurs_after.true))

pub loop-i-preserved : goal.loop-i-preserved
loop-i-preserved c =
    let l = c.loop-i in
    let s = c.args in
    rw (repeated-step s.bytes.now s.numbers.now l.i (omega arith), ← c.occurs_after.ensures, c.if-occurs_after.false) at l.invariant

pub returns : goal.returns
returns c =
    let l = c.loop-i in
    let s = c.args in
    sym (repeated-end s.bytes.now s.numbers.now l.i (omega arith)) ∙ l.invariant
