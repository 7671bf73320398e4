-- `sha1_block::absorb` meets its contract: the blocks that are left, from the value after the others, give the whole.
-- Assumes nothing.
use Rattle.std.proofs.Common.{◌≡◌, ℕ, ◌+◌, ◌<◌, List, [], length, get_or, drop, sym, ◌∙◌, add-one, drop-cons}
use lib.ListN.{drop_of_length-le}
use Rattle.sha1_hash.specs.Sha1.{Five, compressed, hashed}
use Rattle.sha1_block.specs.Held.{five}
use Rattle.sha1_block.proofs.absorb.Goals as goal

one_more : (H : Five) (l : List (List ℕ)) (i : ℕ) → i < length l → hashed H (drop i l) ≡ hashed (compressed H (get_or l i [])) (drop (i + 1) l)
unfolding hashed
one_more H l i h = rw (add-one, drop-cons l i [] h)

pub loop-block-preserved : goal.loop-block-preserved
loop-block-preserved c =
    let l = c.loop-block in
    rw c.compress-h.ensures (sym (one_more (five l.h) c.as_chunks.result.0.now l.block-index c.loop-block-test.true) ∙ l.invariant)

pub returns : goal.returns
unfolding hashed
returns c =
    let l = c.loop-block in
    rw (drop_of_length-le c.as_chunks.result.0.now {i = l.block-index} c.loop-block-test.false) at l.invariant
