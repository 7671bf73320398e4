-- `octets_find::is_among` meets its contract. The loop's invariant: the byte was found exactly when fewer than j bytes
-- come before it. Assumes nothing.
use mathlib.Core.Path.{◌≡◌, sym, ◌∙◌}
use Prim.Native.Nat.{◌+◌, ◌<◌, zero-le}
use native.Mathlib.Omega.{arith}
use borrow.Author.Tests.{lt-ltb, le-ltb}
use lib.ListN.{length, drop}
use Rattle.octets.proofs.Order.{ltb_iff}
use Rattle.octets.specs.Find.{up_to}
use Rattle.octets_find.proofs.Before.{found, not_found}
use Rattle.octets_find.proofs.is_among.Goals.{else-text-at, then-text-at}
use Rattle.octets_find.proofs.is_among.Goals as goal

pub loop-j-init : goal.loop-j-init
loop-j-init c =
    let s = c.args in
    sym (le-ltb (length (up_to s.b (drop s.at s.text.now))) 0 zero-le)

pub loop-j-preserved : goal.loop-j-preserved
loop-j-preserved c =
    let l = c.loop-j in
    let s = c.args in
    let t = s.text.now in
    let p = s.at + l.j in
    let n = length (up_to s.b (drop s.at t)) in
    let h : p < length t = omega arith in
    elim c.if-text-at.branch [
      | then-text-at w ↦ w.found-is ∙ sym (lt-ltb n (l.j + 1) (omega (arith, found s.b t s.at p (omega arith) h w.if-text-at.true)))
      | else-text-at w ↦ let d = not_found s.b t s.at p (omega arith) h w.if-text-at.false in
          w.found-is ∙ l.invariant ∙ ltb_iff n l.j n (l.j + 1) (λ g. omega arith) (λ g. omega arith)
    ]

pub returns : goal.returns
returns c =
    let l = c.loop-j in
    let e : l.j ≡ 8 = omega arith in
    rw e at l.invariant
