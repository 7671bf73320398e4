-- `octets_marked::eight_plain` meets its contract. The loop's invariant: where none was found in the range, the first j
-- bytes have no mark. Assumes nothing.
use mathlib.Core.Path.{◌≡◌, sym, ◌∙◌}
use mathlib.Core.Bool.{true, false}
use Prim.Native.Nat.{ℕ}
use native.Mathlib.Nat.{add-zero}
use native.Mathlib.Omega.{arith}
use Rattle.octets_marked.proofs.Turn.{plain_more}
use Rattle.octets_marked.proofs.eight_plain.Goals.{else-lies, then-lies}
use Rattle.octets_marked.proofs.eight_plain.Goals as goal

pub loop-j-init : goal.loop-j-init
loop-j-init c = λ e mark. rw add-zero

pub loop-j-preserved : goal.loop-j-preserved
loop-j-preserved c =
    let l = c.loop-j in
    let a = c.args in
    let s = a.bytes.now in
    λ e mark. elim c.if-lies.branch [
      | then-lies w ↦ let z : true ≡ false = sym e ∙ w.plain-is in absurd (let d : ◌≡◌ {A = ℕ} 0 1 = cc in omega arith)
      | else-lies w ↦ plain_more mark a.low a.high s a.at l.j (omega arith) (sym c.lies.ensures ∙ w.if-lies.false)
          (l.invariant (sym w.plain-is ∙ e) mark)
    ]

pub returns : goal.returns
returns c =
    let l = c.loop-j in
    let e : l.j ≡ 8 = omega arith in
    rw e at l.invariant
