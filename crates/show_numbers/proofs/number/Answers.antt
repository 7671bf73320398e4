-- `show_numbers::number` meets its contract, by the test of the code. Assumes nothing.
use borrow.Author.Tests.{eq-eqb, ne_eqb}
use Rattle.show_numbers.specs.Numbers.{number_of}
use Rattle.show_numbers.proofs.number.Goals as goal

pub returns-then-n-eq65535 : goal.returns-then-n-eq65535
unfolding number_of
returns-then-n-eq65535 c = rw (eq-eqb _ _ c.if-n-eq65535.true)

pub returns : goal.returns
unfolding number_of
returns c = rw (ne_eqb _ _ c.if-n-eq65535.false)
