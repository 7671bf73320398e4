-- `sha1_block::step` meets its contract: the calls are the round's own terms. Assumes nothing.
use Rattle.sha1_hash.specs.Sha1.{round}
use Rattle.sha1_block.proofs.step.Goals as goal

pub returns : goal.returns
unfolding round
returns c =
    rw (
      c.sum-3.ensures,
      c.sum-2.ensures,
      c.constant.ensures,
      c.sum.ensures,
      c.sum-mixed.ensures,
      c.mix.ensures,
      c.rotate_left_32.ensures,
      c.rotate_left_32-2.ensures,
    )
