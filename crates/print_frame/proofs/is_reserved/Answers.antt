-- `print_frame::is_reserved` meets its contract. Assumes nothing.
use borrow.Author.Tests.{eq-eqb, ne_eqb}
use Rattle.print_frame.proofs.Masks.{low-three}
use Rattle.print_frame.proofs.is_reserved.Goals as goal

pub returns-then-first-ne0 : goal.returns-then-first-ne0
returns-then-first-ne0 c = rw (low-three, ne_eqb _ _ c.if-first-ne0.true)

pub returns-else-first-ne0 : goal.returns-else-first-ne0
returns-else-first-ne0 c = rw (low-three, eq-eqb _ _ c.if-first-ne0.false)
