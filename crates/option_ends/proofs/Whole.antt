-- A replay, byte by byte: a byte more leads from where the bytes before it led to where they lead together, and the
-- lines have room. Assumes nothing.
use Rattle.std.specs.Prelude.{if◌then◌else◌}
use mathlib.Core.Path.{◌≡◌, refl, sym}
use Prim.Native.Nat.{ℕ, suc, ◌+◌, ◌-◌, ◌≤◌, ◌<◌}
use native.Mathlib.Omega.{arith}
use native.Mathlib.Numerals.{add-one}
use native.Mathlib.Nat.{zero-add}
use mathlib.Core.Bool.{Bool, true, false}
use mathlib.Core.List.{List, [], ◌∷◌, ◌++◌, append-nil, append_assoc}
use lib.Dec.{ltb}
use lib.ListN.{length, take, get_or, length-append}
use lib.Seq.{take-suc, take_all}
use Rattle.option_rules.specs.declared.Command.TheVariants.{On as on, Off as off}
use Rattle.option_rules.specs.declared.Side.{Side}
use Rattle.option_rules.specs.Table.{Row, untouched, carried, rules_of}
use Rattle.option_ends.specs.Ends.{End, near, far, request, receive, Call, ◌does◌, Ends, at, fresh, CallResult}
use Rattle.option_ends.specs.Ends.{taken, call_result, sent_by, stepped, changed, move, after, count_where, sends, granted}
use Rattle.option_ends.specs.Replay.{act_of, call_of, calls_of, replayed}
use Rattle.option_ends.specs.Internal.Turn.{onward, clipped}
use Rattle.option_rules.proofs.Chosen.{by_none}
use Rattle.option_ends.proofs.Agreement.{after-append, demand3}

-- nothing moves two fresh ends of an option that is not carried
unmoved : (ks : List Call) → after untouched fresh ks ≡ fresh
unfolding after move changed stepped sent_by call_result taken at
unmoved [] = refl
unmoved ((near does request on) ∷ ks) = unmoved ks
unmoved ((near does request off) ∷ ks) = unmoved ks
unmoved ((near does receive a) ∷ ks) = unmoved ks
unmoved ((far does request on) ∷ ks) = unmoved ks
unmoved ((far does request off) ∷ ks) = unmoved ks
unmoved ((far does receive a) ∷ ks) = unmoved ks

-- whatever the option, at most two commands are under way in each direction
two_deep : (option : ℕ) (ks : List Call) (e : End) → length (at (after (rules_of option) fresh ks) e).coming ≤ 2
unfolding at
two_deep option ks e = go (carried option) refl e
  where
    none : (e : End) → length (at fresh e).coming ≤ 2
    none near = omega arith
    none far = omega arith

    go : (b : Bool) → b ≡ carried option → (e : End) → length (at (after (rules_of option) fresh ks) e).coming ≤ 2
    go true c e = (demand3 option (rw (← c) tt) ks).at_most_two e
    go false c e = rw (by_none option false c refl, unmoved ks) (none e)

-- so the code's lines have room
pub has_room : (option : ℕ) (ks : List Call) → clipped (replayed (rules_of option) ks) ≡ replayed (rules_of option) ks
unfolding at
has_room option ks =
    let t = after (rules_of option) fresh ks in
    rw (take_all 2 t.at_near.coming (two_deep option ks near), take_all 2 t.at_far.coming (two_deep option ks far))

count-append : (such : End → CallResult → Bool) (r : Side → Row) (t : Ends) (ks ls : List Call)
    → count_where such r t (ks ++ ls) ≡ count_where such r t ks + count_where such r (after r t ks) ls
unfolding count_where after
count-append such r t [] ls = sym (zero-add (count_where such r t ls))
count-append such r t ((e does a) ∷ ks) ls =
    go (such e (call_result r (at t e) a)) (count-append such r (move r t (e does a)) ks ls)
  where
    t' : Ends
    t' = move r t (e does a)

    go : (b : Bool) → count_where such r t' (ks ++ ls) ≡ count_where such r t' ks + count_where such r (after r t' ks) ls
        → (if b then suc (count_where such r t' (ks ++ ls)) else count_where such r t' (ks ++ ls))
        ≡ (if b then suc (count_where such r t' ks) else count_where such r t' ks) + count_where such r (after r t' ks) ls
    go true h = omega (arith, h)
    go false h = h

onward-from : (r : Side → Row) (ks ls : List Call) → onward r (replayed r ks) ls ≡ replayed r (ks ++ ls)
unfolding onward
onward-from r ks ls = rw (after-append r fresh ks ls, count-append sends r fresh ks ls, count-append granted r fresh ks ls)

calls-append : (bs cs : List ℕ) → calls_of (bs ++ cs) ≡ calls_of bs ++ calls_of cs
unfolding calls_of
calls-append [] cs = refl
calls-append (b ∷ bs) cs = rw (calls-append bs cs, append_assoc)

calls-one-more : (bs : List ℕ) (i : ℕ) → i < length bs → calls_of (take (i + 1) bs) ≡ calls_of (take i bs) ++ call_of (get_or bs i 0)
unfolding calls_of
calls-one-more bs i h =
    rw (add-one, take-suc bs i 0 h, calls-append (take i bs) (get_or bs i 0 ∷ []), append-nil (call_of (get_or bs i 0)))

pub one_more : (option : ℕ) (bs : List ℕ) (i : ℕ) → i < length bs
    → clipped (onward (rules_of option) (replayed (rules_of option) (calls_of (take i bs))) (call_of (get_or bs i 0)))
    ≡ replayed (rules_of option) (calls_of (take (i + 1) bs))
one_more option bs i h =
    rw (onward-from (rules_of option) (calls_of (take i bs)) (call_of (get_or bs i 0)), ← calls-one-more bs i h)
    (has_room option (calls_of (take (i + 1) bs)))

-- no count is more than the bytes
count-le : (such : End → CallResult → Bool) (r : Side → Row) (t : Ends) (ks : List Call) → count_where such r t ks ≤ length ks
unfolding count_where
count-le such r t [] = omega arith
count-le such r t ((e does a) ∷ ks) = go (such e (call_result r (at t e) a)) (count-le such r (move r t (e does a)) ks)
  where
    n : ℕ
    n = count_where such r (move r t (e does a)) ks

    go : (b : Bool) → n ≤ length ks → (if b then suc n else n) ≤ suc (length ks)
    go true h = omega (arith, h)
    go false h = omega (arith, h)

one-call : (b : ℕ) → length (call_of b) ≤ 1
unfolding call_of
one-call b = go (ltb b 4) (ltb b 8)
  where
    go : (u v : Bool) → length (if u then (near does act_of b) ∷ [] else if v then (far does act_of (b - 4)) ∷ [] else []) ≤ 1
    go true v = omega arith
    go false true = omega arith
    go false false = omega arith

calls-le : (bs : List ℕ) → length (calls_of bs) ≤ length bs
unfolding calls_of
calls-le [] = omega arith
calls-le (b ∷ bs) = rw (length-append (call_of b) (calls_of bs)) (omega (arith, one-call b, calls-le bs))

pub totals-fit : (r : Side → Row) (bs : List ℕ)
    → ((replayed r (calls_of bs)).sent ≤ length bs) × ((replayed r (calls_of bs)).granted ≤ length bs)
totals-fit r bs = (
  omega (arith, count-le sends r fresh (calls_of bs), calls-le bs),
  omega (arith, count-le granted r fresh (calls_of bs), calls-le bs),
)
