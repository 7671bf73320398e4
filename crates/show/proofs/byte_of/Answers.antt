-- `show::byte_of` meets its contract: a digit is below 16, so the byte fits. Assumes nothing.
use native.Mathlib.Omega.{arith}
use Rattle.show.proofs.Digits.{digit-below}
use Rattle.show.proofs.byte_of.Goals as goal

pub overflow_mul-result : goal.overflow_mul-result
overflow_mul-result c = omega (arith, digit-below c.args.high)

pub overflow_add-result : goal.overflow_add-result
overflow_add-result c = omega (arith, digit-below c.args.high, digit-below c.args.low)
