-- `des_schedule::split` meets its contract: the eight groups, one after the other. Assumes nothing.
use Rattle.des.specs.Blocks.{groups}
use Rattle.des_schedule.proofs.split.Goals as goal

pub returns : goal.returns
unfolding groups
returns c =
    rw (
      c.six-8.ensures,
      c.six-7.ensures,
      c.six-6.ensures,
      c.six-5.ensures,
      c.six-4.ensures,
      c.six-3.ensures,
      c.six-2.ensures,
      c.six.ensures,
    )
