-- `names::raise` meets its contract. Assumes nothing.
use borrow.Author.Tests.{le-leb, lt-leb}
use native.Mathlib.Omega.{arith}
use Rattle.names.specs.Name.{raised_byte}
use Rattle.names.proofs.raise.Goals as goal

pub returns-in-97-to-122 : goal.returns-in-97-to-122
unfolding raised_byte
returns-in-97-to-122 c = let b = c.args.b in rw (le-leb 0x61 b (omega arith), le-leb b 0x7A (omega arith))

pub returns-in_default : goal.returns-in_default
unfolding raised_byte
returns-in_default c = let b = c.args.b in rw (lt-leb 0x61 b (omega arith))

pub returns-in_default-2 : goal.returns-in_default-2
unfolding raised_byte
returns-in_default-2 c = let b = c.args.b in rw (le-leb 0x61 b (omega arith), lt-leb b 0x7A (omega arith))
