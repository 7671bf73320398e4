-- `env_text::copy_text` meets its contract. The loop's invariant: what the text still has from here, put after what was
-- copied, gives the whole copy. Assumes nothing.
use mathlib.Core.Path.{◌≡◌, refl, sym, ◌∙◌}
use Prim.Native.Nat.{◌+◌, ◌-◌}
use native.Mathlib.Nat.{add-zero, sub-zero}
use native.Mathlib.Omega.{arith}
use borrow.Author.Tests.{ltb-true, ltb-false}
use lib.ListN.{length, length-set}
use lib.Seq.{take-nil}
use Rattle.env_text.proofs.Scanning.{Next, next, ended}
use Rattle.env_text.proofs.Copying.{copy-refused, copy-whole, copy-next, copy-over}
use Rattle.env_text.proofs.copy_text.Invariants.{left}
use Rattle.env_text.proofs.copy_text.Goals.{Else-w-eq0}
use Rattle.env_text.proofs.copy_text.Goals as goal

-- the byte that a turn copies
copied : (c : Else-w-eq0)
    → Next c.args.s.now c.loop-k.i c.width_at-w.result
copied c =
    next _ _ _ c.width_at-w.ensures (omega arith)

pub returns-then-no_room : goal.returns-then-no_room
returns-then-no_room c =
    let a = c.args in
    let short = ltb-true (length a.out.now) (a.at + a.count) (sym c.no_room.ensures ∙ c.if-no_room.true) in
    sym (copy-refused a.s.now a.from a.count a.out.now a.at short)

pub loop-k-init : goal.loop-k-init
loop-k-init c =
    let a = c.args in
    let room = ltb-false (length a.out.now) (a.at + a.count) (sym c.no_room.ensures ∙ c.if-no_room.false) in
    (omega arith, room, refl, rw (add-zero, sub-zero))

pub returns-then-w-eq0 : goal.returns-then-w-eq0
returns-then-w-eq0 c =
    let l = c.loop-k in
    let a = c.args in
    let e = ended _ _ _ c.width_at-w.ensures c.if-w-eq0.true in
    let over = copy-over l.out (a.at + l.k) (left a.s.now l.i (a.count - l.k)) (rw e.none (take-nil (a.count - l.k))) in
    copy-whole a.s.now a.from a.count a.out.now a.at l.out l.invariant.1 (over ∙ l.invariant.3)

pub overflow_add-out : goal.overflow_add-out
overflow_add-out c = omega (arith, copied (goal.at.overflow_add-out c).Else-w-eq0)

pub overflow_sub-out : goal.overflow_sub-out
overflow_sub-out c = omega (arith, copied (goal.at.overflow_sub-out c).Else-w-eq0)

pub bounds-s-i : goal.bounds-s-i
bounds-s-i c = omega (arith, copied (goal.at.bounds-s-i c).Else-w-eq0)

pub overflow_add-i : goal.overflow_add-i
overflow_add-i c = omega (arith, copied (goal.at.overflow_add-i c).Else-w-eq0)

pub loop-k-preserved : goal.loop-k-preserved
loop-k-preserved c =
    let l = c.loop-k in
    let a = c.args in
    let more = copy-next a.s.now l.out l.i _ a.at l.k a.count (copied (goal.at.loop-k-preserved c).Else-w-eq0) (omega arith) (omega arith) in
    (omega arith, omega arith, rw length-set l.invariant.2, more ∙ l.invariant.3)

pub returns : goal.returns
returns c =
    let l = c.loop-k in
    let a = c.args in
    let none : a.count - l.k ≡ 0 = omega arith in
    let over = copy-over l.out (a.at + l.k) (left a.s.now l.i (a.count - l.k)) (rw none) in
    copy-whole a.s.now a.from a.count a.out.now a.at l.out l.invariant.1 (over ∙ l.invariant.3)
