-- The test `same` is equality, and its laws: by the lengths, and byte by byte. Assumes nothing.
use mathlib.Core.Path.{◌≡◌, refl, ap}
use mathlib.Core.Bool.{true, false, ◌&&◌, and-false}
use mathlib.Core.List.{List, [], ◌∷◌}
use Prim.Native.Nat.{ℕ, suc, ◌+◌, ◌<◌}
use native.Mathlib.Numerals.{add-one}
use lib.Dec.{T, eqb, eqb→eq, eqb_refl}
use lib.ListN.{length, get_or, drop}
use lib.Seq.{drop-cons}
use mir.Facts.{and_yes, yes_and}
use Rattle.octets.specs.Same.{same, SameIsEqual}

pub same-sound : (a b : List ℕ) → T (same a b) → a ≡ b
unfolding same
same-sound [] [] t = refl
same-sound [] (c ∷ cs) t = absurd t
same-sound (b ∷ bs) [] t = absurd t
same-sound (b ∷ bs) (c ∷ cs) t =
    let both = and_yes (eqb b c) (same bs cs) t in
    rw (eqb→eq b c both.0, same-sound bs cs both.1)

pub same_refl : (a : List ℕ) → T (same a a)
unfolding same
same_refl [] = tt
same_refl (b ∷ bs) = yes_and (eqb b b) (same bs bs) (eqb_refl b) (same_refl bs)

pub same-is-equal : SameIsEqual
same-is-equal a b = (same-sound a b, λ e. rw e (same_refl b))

pub same-differ : (a b : List ℕ) → (length a ≡ length b → ⊥) → same a b ≡ false
unfolding same
same-differ [] [] h = absurd (h refl)
same-differ [] (y ∷ b) h = refl
same-differ (x ∷ a) [] h = refl
same-differ (x ∷ a) (y ∷ b) h = rw (same-differ a b (λ e. h (ap suc e))) (and-false (eqb x y))

pub same_none : same [] [] ≡ true
unfolding same
same_none = refl

pub same_next : (a b : List ℕ) (i : ℕ) → i < length a → i < length b
    → same (drop i a) (drop i b) ≡ (eqb (get_or a i 0) (get_or b i 0) && same (drop (i + 1) a) (drop (i + 1) b))
unfolding same
same_next a b i h k = rw (add-one, drop-cons a i 0 h, drop-cons b i 0 k)
