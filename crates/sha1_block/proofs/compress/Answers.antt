-- `sha1_block::compress` meets its contract: the eighty rounds, and the sums. Assumes nothing.
use Rattle.sha1_hash.specs.Sha1.{added, compressed}
use Rattle.sha1_block.proofs.compress.Goals as goal

pub returns : goal.returns
unfolding compressed added
returns c =
    rw (
      ← c.eighty-s.ensures,
      c.sum.ensures,
      c.sum-2.ensures,
      c.sum-3.ensures,
      c.sum-4.ensures,
      c.sum-5.ensures,
    )
