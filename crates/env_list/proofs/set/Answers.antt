-- `env_list::set` meets its contract, by the test of the place. Assumes nothing.
use borrow.Author.Tests.{lt-ltb, le-ltb}
use lib.ListN.{length}
use Rattle.env_list.specs.Lists.{set_at}
use Rattle.env_list.proofs.set.Goals as goal

pub returns-then-i-records : goal.returns-then-i-records
unfolding set_at
returns-then-i-records c =
    let a = c.args in rw (lt-ltb a.i (length a.records.now) c.if-i-records.true)

pub returns : goal.returns
unfolding set_at
returns c =
    let a = c.args in rw (le-ltb a.i (length a.records.now) c.if-i-records.false)
