-- `show::hex_digit` meets its contract: the test of the code is that of the definition. Assumes nothing.
use native.Mathlib.Omega.{arith}
use borrow.Author.Tests.{lt-ltb, le-ltb}
use Rattle.show.specs.Hex.{hex_digit}
use Rattle.show.proofs.hex_digit.Goals as goal

pub returns-then-d-lt10 : goal.returns-then-d-lt10
unfolding hex_digit
returns-then-d-lt10 c = rw (lt-ltb c.args.d 10 (omega arith))

pub returns : goal.returns
unfolding hex_digit
returns c = rw (le-ltb c.args.d 10 (omega arith))
