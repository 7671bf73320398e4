-- `password_des::rdr_seq` meets its contract: a sum that wraps is the sum modulo 2 ^ 64. Assumes nothing.
use Rattle.password_des.proofs.rdr_seq.Goals as goal

pub returns : goal.returns
returns c = c.wrapping_add_u64.ensures.value
