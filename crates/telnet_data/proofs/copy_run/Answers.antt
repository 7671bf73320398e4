-- `telnet_data::copy_run` meets its contract. The invariant: what is in the buffer up to the place where the loop
-- is are the bytes of the stretch up to the place of the line. The measure is the room that is left. Assumes nothing.
use mathlib.Core.Path.{sym, ◌∙◌}
use Prim.Native.Nat.{◌+◌}
use native.Mathlib.Omega.{arith}
use Rattle.telnet_data.proofs.Stretches.{within, stopped}
use Rattle.telnet_data.proofs.Copies.{Put, put-none, put-plain, put-doubled, put_whole, put_full}
use Rattle.telnet_data.proofs.copy_run.Goals.{After-slice_known-in-loop-k-1}
use Rattle.telnet_data.proofs.copy_run.Goals as goal

-- the plain bytes that a turn copies
plains : (c : After-slice_known-in-loop-k-1)
    → Put c.args.s.now
    c.args.at
    c.args.out.now c.args.to
    (c.loop-k.i + c.copy_plain-n.result)
    (c.loop-k.k + c.copy_plain-n.result) c.copy_plain-n.new.out
plains c =
    put-plain c.loop-k.invariant (omega arith) c.copy_plain-n.ensures

-- and the doubled 255 after them
pub loop-k-preserved : goal.loop-k-preserved
loop-k-preserved c =
    put-doubled (plains (goal.at.loop-k-preserved c).After-slice_known-in-loop-k-1) (omega arith) (sym c.is_doubled.ensures ∙ c.if-not-is_doubled.false)

pub loop-k-init : goal.loop-k-init
loop-k-init c =
    let a = c.args in
    put-none a.s.now a.at a.out.now a.to

pub overflow_add-i : goal.overflow_add-i
overflow_add-i c = omega (arith, within (plains (goal.at.overflow_add-i c).After-slice_known-in-loop-k-1).piece)

pub returns-then-out-k : goal.returns-then-out-k
returns-then-out-k c = put_full (plains (goal.at.returns-then-out-k c).After-slice_known-in-loop-k-1) (omega arith)

pub returns-then-not-is_doubled : goal.returns-then-not-is_doubled
returns-then-not-is_doubled c =
    let l = c.loop-k in
    let n = c.copy_plain-n in
    put_whole (plains (goal.at.returns-then-not-is_doubled c).After-slice_known-in-loop-k-1) (stopped _ l.i (l.i + n.result) (omega (arith, n.ensures))
    (sym c.is_doubled.ensures ∙ c.if-not-is_doubled.true))

pub overflow_add-i-in-loop-k : goal.overflow_add-i-in-loop-k
overflow_add-i-in-loop-k c =
    omega (arith, within (put-doubled (plains (goal.at.overflow_add-i-in-loop-k c).After-slice_known-in-loop-k-1) (omega arith) (sym c.is_doubled.ensures ∙ c.if-not-is_doubled.false)).piece)

pub loop-k-smaller : goal.loop-k-smaller
loop-k-smaller c =
    omega (arith, (put-doubled (plains (goal.at.loop-k-smaller c).After-slice_known-in-loop-k-1) (omega arith) (sym c.is_doubled.ensures ∙ c.if-not-is_doubled.false)))

pub returns : goal.returns
returns c = put_full c.loop-k.invariant (omega arith)
