-- `octets_marked::copy_eight` meets its contract. The loop's invariant: j bytes are copied, and the rest of the buffer
-- is as it was. Assumes nothing.
use mathlib.Core.Path.{◌≡◌, sym, ap, ◌∙◌}
use Prim.Native.Nat.{◌+◌}
use native.Mathlib.Omega.{arith}
use borrow.Author.Rules.{rules}
use lib.ListN.{get_or, set, length-set}
use Rattle.octets.proofs.Overwrite.{overwrite-nil}
use Rattle.octets_marked.proofs.Turn.{copied_more}
use Rattle.octets_marked.proofs.copy_eight.Goals as goal

pub loop-j-init : goal.loop-j-init
loop-j-init c = let a = c.args in (search rules, sym (overwrite-nil a.out.now a.to))

pub loop-j-preserved : goal.loop-j-preserved
loop-j-preserved c =
    let l = c.loop-j in
    let a = c.args in
    let s = a.bytes.now in (
      rw length-set l.invariant.0,
      ap (λ m. set m (a.to + l.j) (get_or s (a.from + l.j) 0)) l.invariant.1
          ∙ copied_more s a.out.now a.from a.to l.j (omega arith) (omega arith),
    )

pub returns : goal.returns
returns c =
    let l = c.loop-j in
    let e : l.j ≡ 8 = omega arith in
    rw e at l.invariant.1
