-- `show_input::read_all` meets its contract: each turn reads some bytes after those that are there, or is the last. The
-- measure is how much of the buffer is left. Assumes nothing.
use borrow.Author.Rules.{rules}
use Rattle.io.proofs.Counting.{prefix_len_of_le}
use Rattle.show_input.proofs.read_all.Goals as goal

pub returns-then-more-eq0 : goal.returns-then-more-eq0
returns-then-more-eq0 c = prefix_len_of_le _ _ (search rules)

pub returns : goal.returns
returns c = prefix_len_of_le _ _ (search rules)
