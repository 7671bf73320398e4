-- Demand 3 (`demand3`, the statement `Agreement.Demand3`): every list of calls leads to a pair of ends that was
-- reached, and the weight pays for each command. Assumes nothing.
use Rattle.std.specs.Prelude.{if◌then◌else◌}
use mathlib.Core.Path.{◌≡◌, refl, ap, subst⁻¹, ◌∙◌}
use Prim.Native.Nat.{ℕ, suc, ◌+◌, ◌*◌, ◌≤◌}
use native.Mathlib.Omega.{arith}
use mathlib.Core.Bool.{Bool, true, false}
use mathlib.Core.List.{List, [], ◌∷◌, ◌++◌}
use Rattle.option_rules.specs.declared.Command.TheVariants.{On as on}
use Rattle.option_rules.specs.declared.Side.{Side}
use Rattle.option_rules.specs.declared.Side.TheVariants.{Off}
use Rattle.option_rules.specs.Table.{Row, table}
use Rattle.option_ends.specs.Ends.{End, near, far, request, Call, ◌does◌, Ends, at, fresh, call_result, move, after, count_where, sends, granted}
use Rattle.option_ends.specs.Agreement.{Quiet, Both, Settles, Agreed, Demand3}
use Rattle.option_ends.proofs.Reached.{Reachable, reachable-fresh, reachable-move, lines-short, weight, weightless, paid, quiet-rests}
use Rattle.option_rules.proofs.Chosen.{rules-carried}
use Rattle.option_ends.proofs.Course.{settles}

pub after-append : (r : Side → Row) (t : Ends) (ks ls : List Call) → after r t (ks ++ ls) ≡ after r (after r t ks) ls
unfolding after
after-append r t [] ls = refl
after-append r t (k ∷ ks) ls = after-append r (move r t k) ks ls

reachable-after : (t : Ends) → Reachable t → (ks : List Call) → Reachable (after table t ks)
unfolding after
reachable-after t r [] = r
reachable-after t r (k ∷ ks) = reachable-after (move table t k) (reachable-move t r k) ks

-- one call more: it sends or not, is granted or not
pays : (s g : Bool) (n m u v w : ℕ) → (if s then 1 else 0) + v ≤ (if g then 2 else 0) + w → n + u ≤ 2 * m + v
    → (if s then suc n else n) + u ≤ 2 * (if g then suc m else m) + w
pays true true n m u v w h k = omega arith
pays true false n m u v w h k = omega arith
pays false true n m u v w h k = omega arith
pays false false n m u v w h k = omega arith

all_paid : (t : Ends) → Reachable t → (ks : List Call)
    → count_where sends table t ks + weight (after table t ks) ≤ 2 * count_where granted table t ks + weight t
unfolding after count_where
all_paid t r [] = omega arith
all_paid t r ((e does a) ∷ ks) =
    let t' = move table t (e does a) in
    pays (sends e (call_result table (at t e) a)) (granted e (call_result table (at t e) a)) (count_where sends table t' ks) (count_where granted table t' ks)
    (weight (after table t' ks)) (weight t') (weight t) (paid t r e a) (all_paid t' (reachable-move t r (e does a)) ks)

off-and-quiet : (t : Ends) → Both Off t → Quiet t → t ≡ fresh
unfolding at
off-and-quiet t o q = rw (o near, o far, q near, q far) refl

begun : (calls : List Call) → Both Off (after table fresh calls) → Quiet (after table fresh calls) → (asker : End)
    → after table fresh (calls ++ (asker does request on) ∷ []) ≡ move table fresh (asker does request on)
unfolding after
begun calls o q asker =
    after-append table fresh calls ((asker does request on) ∷ [])
    ∙ ap (λ (t : Ends). move table t (asker does request on)) (off-and-quiet (after table fresh calls) o q)

agreed : (calls : List Call) → Agreed table calls
agreed calls =
    let r = reachable-after fresh reachable-fresh calls in
    record {
      at_most_two = lines-short (after table fresh calls) r;
      rest = quiet-rests (after table fresh calls) r;
      sent_at_most_twice = omega (arith, all_paid fresh reachable-fresh calls, weightless);
      one_request = λ o q asker later h. subst⁻¹ (λ (t : Ends). Settles table t asker later) (begun calls o q asker) (settles asker later h);
    }

pub demand3 : Demand3
demand3 option c calls = subst⁻¹ (λ (r : Side → Row). Agreed r calls) (rules-carried option c) (agreed calls)
