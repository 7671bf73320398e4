-- `names_ebcdic::put_ebcdic` meets its contract. The loop's invariant: to put the bytes from `i` on after those
-- that are there already gives the buffer with all of them. Assumes nothing.
use mathlib.Core.Path.{◌≡◌, refl, sym, ap, ◌∙◌}
use mathlib.Core.Bool.{true}
use mathlib.Core.List.{List, []}
use Prim.Native.Nat.{ℕ, ◌+◌, ◌-◌, ◌≤◌, ◌<◌}
use native.Mathlib.Nat.{add-zero}
use native.Mathlib.Omega.{arith}
use borrow.Author.Tests.{ltb-true, ltb-false}
use lib.ListN.{length, get_or, drop, length-map, length-set, drop_of_length-le}
use Rattle.octets.specs.Lent.{outcome, overwrite}
use Rattle.octets.proofs.Overwrite.{overwrite-next, overwrite-nil}
use Rattle.octets.proofs.Promise.{put-fits, put_refused}
use Rattle.names.specs.Ebcdic.{blank, ebcdic_of}
use Rattle.names.proofs.Text.{length-filled, filled_at}
use Rattle.names_ebcdic.proofs.put_ebcdic.Invariants.{field}
use Rattle.names_ebcdic.proofs.put_ebcdic.Goals as goal

length-field : (text : List ℕ) (width : ℕ) → length (field text width) ≡ length text + (width - length text)
length-field text width = length-filled blank width (ebcdic_of text) ∙ simp length-map

pub returns-then-no_room : goal.returns-then-no_room
returns-then-no_room c =
    let s = c.args in
    let x = field s.text.now s.width in
    let past : length s.out.now < s.at + c.max-count.result = ltb-true _ _ (sym c.no_room.ensures ∙ c.if-no_room.true) in
    sym (put_refused x s.out.now s.at (omega (arith, length-field s.text.now s.width)))

pub loop-i-init : goal.loop-i-init
loop-i-init c =
    let s = c.args in
    let room : s.at + c.max-count.result ≤ length s.out.now = ltb-false _ _ (sym c.no_room.ensures ∙ c.if-no_room.false) in
    (omega arith, omega (arith, length-field s.text.now s.width), room, refl, rw add-zero)

pub loop-i-preserved : goal.loop-i-preserved
loop-i-preserved c =
    let l = c.loop-i in
    let s = c.args in
    let x = field s.text.now s.width in
    let put : c.ebcdic_at.result ≡ get_or x l.i blank = c.ebcdic_at.ensures ∙ sym (filled_at blank s.width (ebcdic_of s.text.now) l.i) in
    (omega arith, l.invariant.1, l.invariant.2, rw length-set l.invariant.3, rw put (overwrite-next l.out s.at x l.i blank (omega arith) (omega arith)) ∙ l.invariant.4)

pub returns : goal.returns
returns c =
    let l = c.loop-i in
    let s = c.args in
    let x = field s.text.now s.width in
    let none : drop l.i x ≡ [] = drop_of_length-le x {i = l.i} (omega arith) in
    let all : l.out ≡ overwrite s.out.now s.at x = sym (overwrite-nil l.out (s.at + l.i)) ∙ rw (← none) l.invariant.4 in
    ap (outcome true) all ∙ sym (put-fits x s.out.now s.at (omega arith))
