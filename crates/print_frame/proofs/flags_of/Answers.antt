-- `print_frame::flags_of` meets its contract: each mask tests its bit. Assumes nothing.
use Rattle.print_frame.proofs.Masks.{one_bit}
use Rattle.print_frame.proofs.flags_of.Goals as goal

pub returns : goal.returns
returns c = let b = c.args.flags in rw (one_bit b 7, one_bit b 6, one_bit b 5, one_bit b 4, one_bit b 3)
