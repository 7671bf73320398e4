-- `password_sha::put_unicode` meets its contract: the characters from i on, put after those that are there, give
-- all of them. Assumes nothing.
use mathlib.Core.Path.{◌≡◌, refl, sym, ◌∙◌}
use mathlib.Core.List.{[]}
use Prim.Native.Nat.{◌+◌, ◌*◌, ◌≤◌, ◌<◌}
use native.Mathlib.Nat.{add-zero}
use native.Mathlib.Omega.{arith}
use lib.ListN.{length, drop, length-set, drop_of_length-le}
use Rattle.octets.proofs.Overwrite.{overwrite-nil}
use Rattle.password_sha.specs.Sha.{unicode}
use Rattle.password_sha.proofs.Unicode.{one_more}
use Rattle.password_sha.proofs.put_unicode.Goals as goal

pub loop-i-init : goal.loop-i-init
loop-i-init c = (omega arith, c.requires, refl, rw add-zero)

pub bounds-out-at-in-loop-i : goal.bounds-out-at-in-loop-i
bounds-out-at-in-loop-i c = simp length-set (omega arith)

pub loop-i-preserved : goal.loop-i-preserved
loop-i-preserved c =
    let l = c.loop-i in
    let s = c.args in
    let below : l.i < length s.text.now = omega arith in
    let room : s.at + 2 * length s.text.now ≤ length l.out = omega arith in
    (omega arith, omega arith, rw (length-set, length-set) l.invariant.2, one_more s.text.now l.out s.at l.i below room ∙ l.invariant.3)

pub returns : goal.returns
unfolding unicode
returns c =
    let l = c.loop-i in
    let s = c.args in
    let none : drop l.i s.text.now ≡ [] = drop_of_length-le s.text.now c.loop-i-test.false in
    sym (overwrite-nil l.out (s.at + 2 * l.i)) ∙ rw none at l.invariant.3
