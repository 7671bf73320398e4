-- Numbers among some, and among more; and refusals by more numbers, or of what is made of the things that were lent.
-- Assumes nothing.
use mathlib.Core.Path.{ap}
use mathlib.Core.Bool.{Bool, true, false, ◌||◌}
use mathlib.Core.List.{List, [], ◌∷◌, ◌++◌}
use Prim.Native.Nat.{ℕ}
use lib.Dec.{T, eqb}
use Rattle.refusal.specs.RefusedBy.{RefusalNumber, no_refusal, refused_by}
use Rattle.claims.specs.Refusals.{one_of, Refuses}
use Rattle.claims.specs.Demand1.{RefusesBy}

or_right : (a b : Bool) → T b → T (a || b)
or_right true b t = tt
or_right false b t = t

or_map : (a b c : Bool) → (T b → T c) → T (a || b) → T (a || c)
or_map true b c f t = tt
or_map false b c f t = f t

pub of_none : (ms : List ℕ) (n : ℕ) → T (one_of [] n) → T (one_of ms n)
unfolding one_of
of_none ms n t = absurd t

pub more : (m : ℕ) (ms : List ℕ) (n : ℕ) → T (one_of ms n) → T (one_of (m ∷ ms) n)
unfolding one_of
more m ms n t = or_right (eqb n m) (one_of ms n) t

-- and among those of two lists
pub after : (ms ks : List ℕ) (n : ℕ) → T (one_of ms n) → T (one_of (ms ++ ks) n)
unfolding one_of
after [] ks n t = absurd t
after (m ∷ ms) ks n t = or_map (eqb n m) (one_of ms n) (one_of (ms ++ ks) n) (after ms ks n) t

-- A refusal by some numbers is one by more.
pub wider : (ms ks : List ℕ) → ((n : ℕ) → T (one_of ms n) → T (one_of ks n)) → {L : Type 0} (found left : L) (r : RefusalNumber)
    → Refuses ms found left r → Refuses ks found left r
wider ms ks f found left no_refusal t = tt
wider ms ks f found left (refused_by n) t = (f n t.0, t.1)

-- What is made of things that are as they were is as it was.
pub mapped : (ms : List ℕ) {L M : Type 0} (f : L → M) (found left : L) (r : RefusalNumber)
    → Refuses ms found left r → Refuses ms (f found) (f left) r
mapped ms f found left no_refusal t = tt
mapped ms f found left (refused_by n) t = (t.0, ap f t.1)

-- where nothing matters but the numbers
pub numbers_of : (ms : List ℕ) {L : Type 0} (found left : L) (r : RefusalNumber) → Refuses ms found left r → RefusesBy ms r
numbers_of ms found left r t = mapped ms (λ _. tt) found left r t
