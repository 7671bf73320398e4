-- `password_des::pair_of` meets its contract: the mask keeps two bits. Assumes nothing.
use lib.Bits.{and_mask}
use Rattle.password_des.proofs.pair_of.Goals as goal

pub returns : goal.returns
returns c = and_mask _ 2
