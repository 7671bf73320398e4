-- `password_check::are_seeds` meets its contract. Assumes nothing.
use native.Mathlib.Omega.{arith}
use borrow.Author.Tests.{eq-eqb, ne_eqb}
use lib.ListN.{length}
use Rattle.password_check.proofs.are_seeds.Goals as goal

pub returns-then-server_seed-ne-SEED_LENGTH : goal.returns-then-server_seed-ne-SEED_LENGTH
returns-then-server_seed-ne-SEED_LENGTH c = rw (ne_eqb (length c.args.server_seed.now) 8 (omega arith))

pub returns : goal.returns
returns c = rw (eq-eqb (length c.args.server_seed.now) 8 (omega arith))
