-- `des_schedule::six` meets its contract: the mask leaves the rest by 64. Assumes nothing.
use native.Mathlib.Omega.{arith}
use Prim.Native.Nat.{◌/◌, ◌^◌}
use lib.Bits.{and_mask, mask_lt}
use Rattle.des_schedule.proofs.six.Goals as goal

pub overflow_cast-result-2 : goal.overflow_cast-result-2
overflow_cast-result-2 c = omega (arith, mask_lt (c.args.x / 2 ^ c.args.low) 6)

pub returns : goal.returns
returns c = and_mask _ 6
