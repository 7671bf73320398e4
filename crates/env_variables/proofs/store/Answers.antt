-- `env_variables::store` meets its contract: the list has room for the record. Assumes nothing.
use Prim.Native.Nat.{◌+◌, ◌*◌, ◌≤◌}
use native.Mathlib.Omega.{arith}
use lib.ListN.{length}
use Rattle.env.specs.Numbers.{record_width, variable_record, numbers_of}
use Rattle.octets.proofs.Promise.{put_whole}
use Rattle.env_variables.proofs.store.Goals as goal

pub returns : goal.returns
returns c =
    let a = c.args in
    let this = numbers_of (variable_record a.kind a.at a.n (a.at + a.n) a.m a.mark) in
    let fit : record_width * a.k + record_width ≤ length a.numbers.now = omega arith in
    let set = c.set_record.ensures in
    put_whole this a.numbers.now (record_width * a.k) fit (rw c.record_of.ensures at set)
