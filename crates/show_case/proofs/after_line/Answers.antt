-- `show_case::after_line` meets its contract. Assumes nothing.
use Prim.Native.Nat.{◌+◌}
use native.Mathlib.Omega.{arith}
use borrow.Author.Tests.{lt-ltb, le-ltb}
use lib.ListN.{length, drop}
use Rattle.octets.specs.Find.{up_to}
use Rattle.show_case.specs.Case.{line_at, after_line}
use Rattle.show_case.proofs.after_line.Goals as goal

pub returns-then-end-text : goal.returns-then-end-text
unfolding after_line line_at
returns-then-end-text c =
    let s = c.args in
    (rw (lt-ltb (s.at + length (up_to 10 (drop s.at s.text.now))) (length s.text.now) (omega arith)) (omega arith), omega arith)

pub returns : goal.returns
unfolding after_line line_at
returns c =
    let s = c.args in
    (rw (le-ltb (s.at + length (up_to 10 (drop s.at s.text.now))) (length s.text.now) (omega arith)) (omega arith), omega arith)
