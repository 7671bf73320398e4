-- `env_text::extent_at` meets its contract: the text from the loop's place on is what is left of the whole. The
-- measure is `length s - i`. Assumes nothing.
use mathlib.Core.Path.{refl, ap, ◌∙◌}
use native.Mathlib.Omega.{arith}
use lib.ListN.{length}
use Rattle.env_text.proofs.Scanning.{Next, next, ended}
use Rattle.env_text.proofs.extent_at.Goals.{In-loop-w}
use Rattle.env_text.proofs.extent_at.Goals as goal

-- the byte that a turn passes
passed : (c : In-loop-w) → Next c.args.s.now c.loop-w.i c.loop-w.w
passed c =
    next _ _ _ c.loop-w.invariant.0 c.loop-w-test.true

pub loop-w-init : goal.loop-w-init
loop-w-init c = (c.width_at-w.ensures, omega arith, omega arith, omega arith, refl)

pub overflow_add-i : goal.overflow_add-i
overflow_add-i c = omega (arith, passed (goal.at.overflow_add-i c).In-loop-w)

pub overflow_add-n : goal.overflow_add-n
overflow_add-n c = omega (arith, passed (goal.at.overflow_add-n c).In-loop-w)

pub loop-w-smaller : goal.loop-w-smaller
loop-w-smaller c = omega (arith, passed (goal.at.loop-w-smaller c).In-loop-w)

pub loop-w-preserved : goal.loop-w-preserved
loop-w-preserved c =
    let n = passed (goal.at.loop-w-preserved c).In-loop-w in
    (c.width_at-w-in-loop-w.ensures, omega (arith, n), omega (arith, n), omega (arith, n), n.after ∙ c.loop-w.invariant.4)

pub returns : goal.returns
returns c =
    let l = c.loop-w in
    let e = ended _ _ _ l.invariant.0 (omega arith) in
    record { count = omega (arith, l.invariant.3, ap length e.none); rest = e.rest ∙ l.invariant.4; within = l.invariant.2 }
