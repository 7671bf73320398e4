-- `words::rotate_left_32` meets its contract: the law of rotations at 32 bits. Assumes nothing.
use native.Mathlib.Omega.{arith}
use Prim.Native.Nat.{◌%◌}
use Rattle.words.proofs.Rotation.{turned}
use Rattle.words.proofs.rotate_left_32.Goals as goal

pub returns : goal.returns
returns c = cc (turned 32 (c.args.n % 32) c.args.x (omega arith) c.ranges.x.fits)
