-- `export_password::put_hash` meets its contract: by the refusal, and by what `octets::put` answers. Assumes nothing.
use Rattle.std.proofs.lemmas.Result.{err_from_is_err_and}
use mathlib.Core.Path.{◌≡◌}
use native.Mathlib.Omega.{arith}
use lib.ListN.{length}
use Rattle.octets.proofs.Promise.{front-put}
use Rattle.export_password.specs.Numbers.{sha_length, hash_into}
use Rattle.export_password.proofs.put_hash.Goals as goal

pub returns-in_err-bytes : goal.returns-in_err-bytes
unfolding hash_into
returns-in_err-bytes c =
    let p = err_from_is_err_and c.from_residual.result c.from_residual.ensures.1 in
    rw (p.1, p.2, c.in_err-bytes.was)

pub returns-then-put : goal.returns-then-put
unfolding hash_into
returns-then-put c =
    let bytes = c.in_ok-bytes.bytes in
    let w = rw c.in_ok-bytes.was at c.well_formed in
    let twenty : length bytes ≡ sha_length = omega (arith, w) in
    rw (c.in_ok-bytes.was, ← twenty) (front-put _ _ bytes c.args.out.now (rw c.if-put.true at c.put.ensures))

pub returns : goal.returns
unfolding hash_into
returns c =
    rw c.in_ok-bytes.was (front-put _ _ c.in_ok-bytes.bytes c.args.out.now (rw c.if-put.false at c.put.ensures))
