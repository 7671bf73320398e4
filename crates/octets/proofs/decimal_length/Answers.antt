-- `octets::decimal_length` meets its contract. The loop's invariant: what is counted and the digits of what is left are
-- one more than the digits of `n`. The measure is what is left. Assumes nothing.
use native.Mathlib.Omega.{arith}
use Rattle.octets.proofs.Decimal.{length-decimal-short, length-decimal-long, length-decimal-pos, length-decimal-word}
use Rattle.octets.proofs.decimal_length.Goals as goal

pub loop-left-init : goal.loop-left-init
loop-left-init c = omega arith

pub overflow_add-count : goal.overflow_add-count
overflow_add-count c = omega (arith, length-decimal-word c.args.n c.ranges.n.fits, length-decimal-pos c.loop-left.left)

pub loop-left-smaller : goal.loop-left-smaller
loop-left-smaller c = omega arith

pub loop-left-preserved : goal.loop-left-preserved
loop-left-preserved c = omega (arith, length-decimal-long c.loop-left.left (omega arith))

pub returns : goal.returns
returns c = omega (arith, length-decimal-short c.loop-left.left (omega arith))
