-- `password_des::fold` meets its contract: a byte for each of the eight. Assumes nothing.
use Rattle.password_des.specs.Des.{folded}
use Rattle.password_des.proofs.fold.Goals as goal

pub returns : goal.returns
unfolding folded
returns c =
    rw (
      c.folded_byte-8.ensures,
      c.folded_byte-7.ensures,
      c.folded_byte-6.ensures,
      c.folded_byte-5.ensures,
      c.folded_byte-4.ensures,
      c.folded_byte-3.ensures,
      c.folded_byte-2.ensures,
      c.folded_byte.ensures,
    )
