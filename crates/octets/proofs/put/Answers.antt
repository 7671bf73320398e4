-- `octets::put` meets its contract. The loop's invariant: to put the bytes from `i` on after those that are there
-- already gives the buffer with all of them. Assumes nothing.
use mathlib.Core.Path.{◌≡◌, refl, sym, ap, ◌∙◌}
use mathlib.Core.Bool.{true}
use mathlib.Core.List.{[]}
use Prim.Native.Nat.{◌+◌}
use native.Mathlib.Nat.{add-zero}
use native.Mathlib.Omega.{arith}
use borrow.Author.Tests.{ltb-true, ltb-false}
use lib.ListN.{length, drop, length-set, drop_of_length-le}
use Rattle.octets.specs.Lent.{outcome, overwrite}
use Rattle.octets.proofs.Overwrite.{overwrite-next, overwrite-nil}
use Rattle.octets.proofs.Promise.{put-fits, put_refused}
use Rattle.octets.proofs.put.Goals as goal

pub returns-then-no_room : goal.returns-then-no_room
returns-then-no_room c =
    let s = c.args in
    let x = s.bytes.now in
    let b = s.buffer.now in
    sym (put_refused x b s.at (ltb-true (length b) (s.at + length x) (sym c.no_room.ensures ∙ c.if-no_room.true)))

pub loop-i-init : goal.loop-i-init
loop-i-init c =
    let s = c.args in
    let room = ltb-false (length s.buffer.now) (s.at + length s.bytes.now) (sym c.no_room.ensures ∙ c.if-no_room.false) in
    (omega arith, room, refl, rw add-zero)

pub loop-i-preserved : goal.loop-i-preserved
loop-i-preserved c =
    let l = c.loop-i in
    let s = c.args in
    let x = s.bytes.now in
    (omega arith, omega arith, rw length-set l.invariant.2, overwrite-next l.buffer s.at x l.i 0 (omega arith) (omega arith) ∙ l.invariant.3)

pub returns : goal.returns
returns c =
    let l = c.loop-i in
    let s = c.args in
    let x = s.bytes.now in
    let b = s.buffer.now in
    let none : drop l.i x ≡ [] = drop_of_length-le x c.loop-i-test.false in
    let all : l.buffer ≡ overwrite b s.at x = sym (overwrite-nil l.buffer (s.at + l.i)) ∙ rw (← none) l.invariant.3 in
    ap (outcome true) all ∙ sym (put-fits x b s.at l.invariant.1)
