use Rattle.std.proofs.Common.{arith, ◌≡◌, sym, ap, ◌∙◌, length, ⊎_elim}
use Rattle.octets.proofs.Equality.{same-differ}
use Rattle.octets.proofs.Comparison.{one_more, none_left}
use Rattle.octets.proofs.same.Goals as goal

pub returns-then-a-b : goal.returns-then-a-b
returns-then-a-b c = sym (same-differ c.args.a.now c.args.b.now c.if-a-b.true)

pub loop-x-preserved : goal.loop-x-preserved
loop-x-preserved c =
    let n = c.in-Some.ensures.steps in
    let l = c.loop-x in (
      omega (arith, ap length n.0, ap length n.1, l.invariant.0),
      one_more l.differences c.in-Some.x.now c.in-Some.y.now _ _ ∙ rw (← n.0, ← n.1) l.invariant.1,
    )

pub returns : goal.returns
returns c =
    let i = c.loop-x.invariant in
    let a : length c.loop-x.x-iterator.a.rest.now ≡ 0 = ⊎_elim (λ z. z.1.0) (λ z. i.0 ∙ z.1.0) c.in-None.ensures.steps in
    sym (none_left _ _ _ a (sym i.0 ∙ a)) ∙ i.1
