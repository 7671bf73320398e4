-- The order of names is strict and total: the theorem `Theorems.StrictAndTotal`. Assumes nothing.
use mathlib.Core.Path.{◌≡◌, refl, ap₂}
use mathlib.Core.Bool.{Bool, true, false, ◌&&◌, ◌||◌}
use mathlib.Core.List.{List, [], ◌∷◌}
use mathlib.Core.Logic.{◌⊎◌, inl, inr, ⊎_elim}
use Prim.Native.Nat.{ℕ, ◌≤◌, ◌<◌}
use native.Mathlib.Omega.{arith}
use lib.Dec.{T, eqb, ltb, ltb→lt, lt→ltb, eqb→eq}
use borrow.Author.Tests.{lt-ltb, le-ltb, eq-eqb}
use mir.Facts.{and_yes, or_yes}
use Rattle.octets.proofs.Order.{below-or-above}
use Rattle.names.specs.Order.{precedes}
use Rattle.names.specs.Theorems.{StrictAndTotal}

-- a first byte that is lower decides; where the first bytes are the same, the rest does
lower : (a b : ℕ) (xs ys : List ℕ) → a < b → T (precedes (a ∷ xs) (b ∷ ys))
unfolding precedes
lower a b xs ys h = rw (lt-ltb a b h) tt

same : (a : ℕ) (xs ys : List ℕ) → precedes (a ∷ xs) (a ∷ ys) ≡ precedes xs ys
unfolding precedes
same a xs ys = rw (le-ltb a a (omega arith), eq-eqb a a refl)

-- what it means that a name comes before another
data Before (a b : ℕ) (xs ys : List ℕ) : Type 0 where
  by_first : a < b → Before a b xs ys
  by-rest : a ≡ b → T (precedes xs ys) → Before a b xs ys

before : (a b : ℕ) (xs ys : List ℕ) → T (precedes (a ∷ xs) (b ∷ ys)) → Before a b xs ys
unfolding precedes
before a b xs ys t =
    ⊎_elim (λ l. by_first (ltb→lt a b l))
    (λ r. let y = and_yes (eqb a b) (precedes xs ys) r in by-rest (eqb→eq a b y.0) y.1)
    (or_yes (ltb a b) (eqb a b && precedes xs ys) t)

after : (a b : ℕ) (xs ys : List ℕ) → Before a b xs ys → T (precedes (a ∷ xs) (b ∷ ys))
after a b xs ys (by_first h) = lower a b xs ys h
after a b xs ys (by-rest e t) = rw (e, same b xs ys) t

never-itself : (a : List ℕ) → precedes a a ≡ false
unfolding precedes
never-itself [] = refl
never-itself (a ∷ xs) = rw (le-ltb a a (omega arith), eq-eqb a a refl) (never-itself xs)

transitive : (a b c : List ℕ) → T (precedes a b) → T (precedes b c) → T (precedes a c)
unfolding precedes
transitive [] b [] t u = absurd (none b u)
  where
    none : (b : List ℕ) → T (precedes b []) → ⊥
    none [] u = u
    none (b ∷ ys) u = u
transitive [] b (c ∷ zs) t u = tt
transitive (a ∷ xs) [] c t u = absurd t
transitive (a ∷ xs) (b ∷ ys) [] t u = absurd u
transitive (a ∷ xs) (b ∷ ys) (c ∷ zs) t u = after a c xs zs (go (before a b xs ys t) (before b c ys zs u) (transitive xs ys zs))
  where
    go : Before a b xs ys → Before b c ys zs → (T (precedes xs ys) → T (precedes ys zs) → T (precedes xs zs)) → Before a c xs zs
    go (by_first h) (by_first k) more = by_first (omega arith)
    go (by_first h) (by-rest k v) more = by_first (omega arith)
    go (by-rest h w) (by_first k) more = by_first (omega arith)
    go (by-rest h w) (by-rest k v) more = by-rest (omega arith) (more w v)

one_of_three : (a b : List ℕ) → T (precedes a b) ⊎ ((a ≡ b) ⊎ T (precedes b a))
unfolding precedes
one_of_three [] [] = inr (inl refl)
one_of_three [] (b ∷ ys) = inl tt
one_of_three (a ∷ xs) [] = inr (inr tt)
one_of_three (a ∷ xs) (b ∷ ys) =
    ⊎_elim (λ h. inl (lower a b xs ys h))
    (λ h. ⊎_elim (λ g. inr (inr (lower b a ys xs g))) (λ g. equal (omega arith) (one_of_three xs ys)) (below-or-above b a))
    (below-or-above a b)
  where
    equal : a ≡ b → T (precedes xs ys) ⊎ ((xs ≡ ys) ⊎ T (precedes ys xs))
        → T (precedes (a ∷ xs) (b ∷ ys)) ⊎ ((a ∷ xs ≡ b ∷ ys) ⊎ T (precedes (b ∷ ys) (a ∷ xs)))
    equal e (inl t) = inl (after a b xs ys (by-rest e t))
    equal e (inr (inl t)) = inr (inl (ap₂ ◌∷◌ e t))
    equal e (inr (inr t)) = inr (inr (after b a ys xs (by-rest (omega arith) t)))

pub strict-and-total : StrictAndTotal
strict-and-total = record { never-itself = never-itself; transitive = transitive; one_of_three = one_of_three }
