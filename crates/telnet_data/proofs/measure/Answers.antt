-- `telnet_data::measure` meets its contract. The invariant: as many bytes of the stretch as are counted come before
-- the place where the loop is. The measure is what is left of the line. Assumes nothing.
use mathlib.Core.Path.{sym, ◌∙◌}
use Prim.Native.Nat.{◌+◌, ◌-◌}
use native.Mathlib.Omega.{arith}
use Rattle.telnet_data.proofs.Stretches.{Passed, pass-none, pass-within, pass-plain, pass-doubled, pass_all, stopped, ended}
use Rattle.telnet_data.proofs.measure.Goals.{After-find_byte-plain}
use Rattle.telnet_data.proofs.measure.Goals as goal

-- the plain bytes that a turn finds
found : (c : After-find_byte-plain)
    → Passed c.args.s.now c.args.at c.find_byte-plain.result
    (c.loop-i.n + (c.find_byte-plain.result - c.loop-i.i))
found c =
    pass-plain c.loop-i.invariant c.find_byte-plain.result c.find_byte-plain.ensures

-- and the doubled 255 after them
pub loop-i-preserved : goal.loop-i-preserved
loop-i-preserved c =
    pass-doubled (found (goal.at.loop-i-preserved c).After-find_byte-plain) (sym c.is_doubled.ensures ∙ c.if-not-is_doubled.false)

pub loop-i-init : goal.loop-i-init
loop-i-init c = pass-none c.args.s.now c.args.at

pub overflow_add-n : goal.overflow_add-n
overflow_add-n c = omega (arith, pass-within (found (goal.at.overflow_add-n c).After-find_byte-plain))

pub returns-then-not-is_doubled : goal.returns-then-not-is_doubled
returns-then-not-is_doubled c =
    let s = c.args.s.now in
    pass_all (found (goal.at.returns-then-not-is_doubled c).After-find_byte-plain) (stopped s c.loop-i.i c.find_byte-plain.result
    c.find_byte-plain.ensures (sym c.is_doubled.ensures ∙ c.if-not-is_doubled.true))

pub overflow_add-n-in-loop-i : goal.overflow_add-n-in-loop-i
overflow_add-n-in-loop-i c =
    omega (arith, pass-within (pass-doubled (found (goal.at.overflow_add-n-in-loop-i c).After-find_byte-plain) (sym c.is_doubled.ensures ∙ c.if-not-is_doubled.false)))

pub overflow_add-i : goal.overflow_add-i
overflow_add-i c =
    omega (arith, pass-within (pass-doubled (found (goal.at.overflow_add-i c).After-find_byte-plain) (sym c.is_doubled.ensures ∙ c.if-not-is_doubled.false)))

pub loop-i-smaller : goal.loop-i-smaller
loop-i-smaller c =
    omega (arith, pass-within (pass-doubled (found (goal.at.loop-i-smaller c).After-find_byte-plain) (sym c.is_doubled.ensures ∙ c.if-not-is_doubled.false)))

pub returns : goal.returns
returns c = pass_all c.loop-i.invariant (ended _ _ c.loop-i-test.false)
