-- `octets_marked::lies` meets its contract: the two tests in their order. Assumes nothing.
use native.Mathlib.Omega.{arith}
use borrow.Author.Tests.{le-leb, lt-leb}
use Rattle.octets_marked.proofs.lies.Goals as goal

pub returns-then-b-low : goal.returns-then-b-low
returns-then-b-low c = let a = c.args in rw (lt-leb a.low a.b (omega arith))

pub returns : goal.returns
returns c = let a = c.args in rw (le-leb a.low a.b (omega arith))
