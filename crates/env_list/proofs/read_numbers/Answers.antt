-- `env_list::read_numbers` meets its contract: the numbers that `read` is lent have room for the records that the list
-- has room for. Assumes nothing.
use mathlib.Core.Path.{◌≡◌}
use mathlib.Core.List.{[], append-nil}
use Prim.Native.Nat.{◌*◌, ◌-◌}
use native.Mathlib.Omega.{arith}
use lib.ListN.{length}
use Rattle.env.specs.Numbers.{list_limit, record_width}
use Rattle.env_list.proofs.Joined.{numbered, cut-room, whole_room}
use Rattle.env_list.proofs.read_numbers.Goals as goal

pub returns-then-room-lt-VARIABLE_LIMIT : goal.returns-then-room-lt-VARIABLE_LIMIT
returns-then-room-lt-VARIABLE_LIMIT c =
    let a = c.args in
    let e = c.read.ensures in
    let size : length a.numbers.now ≡ list_limit = omega arith in
    numbered a.payload.now a.bytes.now _ _ a.room _ _ _ (cut-room a.numbers.now (record_width * a.room - 0) a.room size (omega arith) (omega arith)) e

pub returns : goal.returns
returns c =
    let a = c.args in
    let e = c.read-2.ensures in
    let size : length a.numbers.now ≡ list_limit = omega arith in
    rw append-nil at (numbered a.payload.now a.bytes.now a.numbers.now [] a.room _ _ _ (whole_room a.numbers.now a.room size (omega arith)) e)
