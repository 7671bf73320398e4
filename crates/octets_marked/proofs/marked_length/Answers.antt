-- `octets_marked::marked_length` meets its contract. The loop's invariant: the marks so far, the bytes so far and what
-- is left to count are the whole, and there are no more marks than bytes. Assumes nothing.
use mathlib.Core.Path.{ap, sym, ◌∙◌}
use native.Mathlib.Omega.{arith}
use lib.ListN.{length, get_or}
use Rattle.octets_marked.proofs.Marked.{marked-pair, marked-one, length-marked-at, marked-end}
use Rattle.octets_marked.proofs.marked_length.Goals.{else-lies, then-lies}
use Rattle.octets_marked.proofs.marked_length.Goals as goal

pub loop-b-init : goal.loop-b-init
loop-b-init c = (omega arith, λ mark. omega arith)

pub loop-b-preserved : goal.loop-b-preserved
loop-b-preserved c =
    let l = c.loop-b in
    let a = c.args in
    let s = a.bytes.now in
    let b = get_or s l.b-index 0 in
    let is = sym c.lies.ensures in
    elim c.if-lies.branch [
      | then-lies w ↦ (
        omega arith,
        λ mark.
            omega (arith, length-marked-at mark a.low a.high s l.b-index (omega arith), ap length (marked-pair mark a.low a.high b (is ∙ w.if-lies.true)), l.invariant.1 mark),
      )
      | else-lies w ↦ (
        omega arith,
        λ mark.
            omega (arith, length-marked-at mark a.low a.high s l.b-index (omega arith), ap length (marked-one mark a.low a.high b (is ∙ w.if-lies.false)), l.invariant.1 mark),
      )
    ]

pub returns : goal.returns
returns c =
    λ mark.
    let a = c.args in
    let l = c.loop-b in
    omega (arith, ap length (marked-end mark a.low a.high a.bytes.now l.b-index c.loop-b-test.false), l.invariant.1 mark)
