-- `profile_maker::make_record` meets its contract. Assumes nothing.
use Rattle.std.specs.Prelude.{Ok, Err}
use Rattle.std.proofs.lemmas.Result.{err_from_is_err_and}
use native.Mathlib.Omega.{arith}
use Rattle.profile_maker.specs.Made.{Making, making}
use Rattle.profile_maker.proofs.Answers.{Given, said, short, wrote}
use Rattle.profile_maker.proofs.make_record.Goals.{In_ok-sha}
use Rattle.profile_maker.proofs.make_record.Goals as goal

pub returns-in_err-sha : goal.returns-in_err-sha
returns-in_err-sha c =
    let s = c.args in
    let p = err_from_is_err_and c.from_residual.result c.from_residual.ensures.1 in
    let m = making s.name.now s.password.now s.enabled s.des_allowed in
    rw (p.1, p.2) (said m c.sha_token.result (Err c.in_err-sha.field-0.0) c.sha_token.ensures c.in_err-sha.was s.out.now)

-- what is asked for, once there is a token
abbrev asked : In_ok-sha → Making
asked c = making c.args.name.now c.args.password.now c.args.enabled c.args.des_allowed

given : (c : In_ok-sha) → Given (asked c) c.in_ok-sha.sha
given c = said (asked c) c.sha_token.result (Ok c.in_ok-sha.sha) c.sha_token.ensures c.in_ok-sha.was

pub returns-then-out-length : goal.returns-then-out-length
returns-then-out-length c =
    let k = (goal.at.returns-then-out-length c).In_ok-sha in short (asked k) c.in_ok-sha.sha (given k) c.args.out.now (omega arith)

pub des_part-des-requires : goal.des_part-des-requires
des_part-des-requires c = (given (goal.at.des_part-des-requires c).In_ok-sha).named

pub put_record-requires : goal.put_record-requires
put_record-requires c = ((given (goal.at.put_record-requires c).In_ok-sha).named, omega arith)

pub returns : goal.returns
returns c =
    let k = (goal.at.returns c).In_ok-sha in
    rw c.put_record.ensures
    (wrote (asked k) c.in_ok-sha.sha (given k) c.args.out.now
    c.flags.result c.des_part-des.result.allowed c.des_part-des.result.token c.flags.ensures c.des_part-des.ensures (omega arith))
