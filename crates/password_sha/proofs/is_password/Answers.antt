-- `password_sha::is_password` meets its contract. Assumes nothing.
use native.Mathlib.Omega.{arith}
use borrow.Author.Tests.{le-leb, lt-leb}
use lib.ListN.{length}
use Rattle.password_sha.specs.Sha.{is_password}
use Rattle.password_sha.proofs.is_password.Goals as goal

pub returns-then-text-eq0 : goal.returns-then-text-eq0
unfolding is_password
returns-then-text-eq0 c = rw (lt-leb 1 (length c.args.text.now) (omega arith))

pub returns-then-text-gt-PASSWORD_LIMIT : goal.returns-then-text-gt-PASSWORD_LIMIT
unfolding is_password
returns-then-text-gt-PASSWORD_LIMIT c =
    let n = length c.args.text.now in
    rw (le-leb 1 n (omega arith), lt-leb n 128 (omega arith))

pub returns : goal.returns
unfolding is_password
returns c =
    let n = length c.args.text.now in
    rw (le-leb 1 n (omega arith), le-leb n 128 (omega arith)) c.are_printable.ensures
