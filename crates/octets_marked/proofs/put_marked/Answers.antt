-- `octets_marked::put_marked` meets its contract. The loop's invariant: what is left to write, written where the loop
-- is, gives the whole. The measure is how many bytes are left. Assumes nothing.
use mathlib.Core.Path.{sym, ap₂, ◌∙◌}
use Prim.Native.Nat.{◌+◌, ◌≤◌}
use native.Mathlib.Omega.{arith}
use lib.ListN.{length}
use borrow.Author.Tests.{ltb-true, ltb-false}
use Rattle.octets.specs.Lent.{outcome}
use Rattle.octets_marked.specs.Marked.{marked}
use Rattle.octets_marked.proofs.Marked.{put-fits, put_refused}
use Rattle.octets_marked.proofs.Turn.{then-further, all-put}
use Rattle.octets_marked.proofs.put_marked.Goals.{Else-no_room}
use Rattle.octets_marked.proofs.put_marked.Goals as goal

pub returns-then-no_room : goal.returns-then-no_room
returns-then-no_room c =
    let a = c.args in
    let m = c.marked_length in
    let past = ltb-true (length a.out.now) (a.at + m.result) (sym c.no_room.ensures ∙ c.if-no_room.true) in
    sym (put_refused a.mark a.low a.high a.bytes.now a.out.now a.at (omega (arith, m.ensures a.mark)))

-- there is room where the test said so
room : (c : Else-no_room)
    → let a = c.args in
    a.at + length (marked a.mark a.low a.high a.bytes.now) ≤ length a.out.now
room c =
    let a = c.args in
    let m = c.marked_length in
    let within = ltb-false (length a.out.now) (a.at + m.result) (sym c.no_room.ensures ∙ c.if-no_room.false) in
    omega (arith, m.ensures a.mark)

pub put_eight-k-requires : goal.put_eight-k-requires
put_eight-k-requires c =
    (omega arith, omega (arith, c.loop-i.invariant.1, c.loop-i.invariant.2.place, room (goal.at.put_eight-k-requires c).Else-no_room))

pub loop-i-preserved : goal.loop-i-preserved
loop-i-preserved c =
    let p = c.put_eight-k in
    let l = c.loop-i in
    (omega arith, p.auto.out ∙ l.invariant.1, then-further l.invariant.2 p.ensures)

pub put_bytes-requires : goal.put_bytes-requires
put_bytes-requires c =
    (c.loop-i.invariant.0, omega arith, omega (arith, c.loop-i.invariant.1, c.loop-i.invariant.2.place, room (goal.at.put_bytes-requires c).Else-no_room))

pub returns : goal.returns
returns c =
    let a = c.args in
    let all = all-put (then-further c.loop-i.invariant.2 c.put_bytes.ensures) in
    ap₂ outcome all.place all.lent ∙ sym (put-fits a.mark a.low a.high a.bytes.now a.out.now a.at (room (goal.at.returns c).Else-no_room))
