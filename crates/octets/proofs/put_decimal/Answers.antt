-- `octets::put_decimal` meets its contract. Assumes nothing.
use mathlib.Core.Path.{sym, ap, ◌∙◌}
use mathlib.Core.Bool.{true}
use Prim.Native.Nat.{◌+◌, ◌≤◌, ◌<◌}
use borrow.Author.Tests.{ltb-true, ltb-false}
use lib.ListN.{length}
use Rattle.octets.specs.Decimal.{decimal}
use Rattle.octets.specs.Lent.{outcome}
use Rattle.octets.proofs.Promise.{put-fits, put_refused}
use Rattle.octets.proofs.put_decimal.Goals.{Else-no_room}
use Rattle.octets.proofs.put_decimal.Goals as goal

pub returns-then-no_room : goal.returns-then-no_room
returns-then-no_room c =
    let s = c.args in
    let b = s.buffer.now in
    let count = c.decimal_length-count in
    let past : length b < s.at + count.result = ltb-true (length b) (s.at + count.result) (sym c.no_room.ensures ∙ c.if-no_room.true) in
    sym (put_refused (decimal s.n) b s.at (rw (← count.ensures) past))

-- past the test there is room
room : (c : Else-no_room) → let s = c.args in s.at + c.decimal_length-count.result ≤ length s.buffer.now
room c =
    ltb-false _ _ (sym c.no_room.ensures ∙ c.if-no_room.false)

pub put_digits-requires : goal.put_digits-requires
put_digits-requires c = (c.decimal_length-count.ensures, room (goal.at.put_digits-requires c).Else-no_room)

pub returns : goal.returns
returns c =
    let s = c.args in
    ap (outcome true) c.put_digits.ensures
    ∙ sym (put-fits (decimal s.n) s.buffer.now s.at (rw (← c.decimal_length-count.ensures) (room (goal.at.returns c).Else-no_room)))
