-- `show::digit_value` meets its contract: the test of the code is that of the definition. Assumes nothing.
use native.Mathlib.Omega.{arith}
use borrow.Author.Tests.{lt-ltb, le-ltb}
use Rattle.show.specs.Hex.{digit_value}
use Rattle.show.proofs.digit_value.Goals as goal

pub returns-then-c-lt58 : goal.returns-then-c-lt58
unfolding digit_value
returns-then-c-lt58 c = rw (lt-ltb c.args.c 58 (omega arith)) (omega arith)

pub returns : goal.returns
unfolding digit_value
returns c = rw (le-ltb c.args.c 58 (omega arith))
