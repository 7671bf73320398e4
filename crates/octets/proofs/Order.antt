-- Orders of numbers by cases, and two tests that say the same.
-- Assumes nothing.
use mathlib.Core.Path.{◌≡◌, refl, sym, ◌∙◌}
use mathlib.Core.Bool.{Bool, true, false}
use mathlib.Core.Logic.{◌⊎◌, inl, inr, ⊎_elim}
use Prim.Native.Nat.{ℕ, ◌≤◌, ◌<◌}
use lib.Dec.{ltb}
use borrow.Author.Tests.{ltb-true, ltb-false, lt-ltb, le-ltb}

pub below-or-above : (n m : ℕ) → (n < m) ⊎ (m ≤ n)
below-or-above n m = by-test (ltb n m) refl
  where
    by-test : (t : Bool) → ltb n m ≡ t → (n < m) ⊎ (m ≤ n)
    by-test true e = inl (ltb-true n m e)
    by-test false e = inr (ltb-false n m e)

pub ltb_iff : (a b c d : ℕ) → (a < b → c < d) → (b ≤ a → d ≤ c) → ltb a b ≡ ltb c d
ltb_iff a b c d f g = ⊎_elim (λ h. lt-ltb a b h ∙ sym (lt-ltb c d (f h))) (λ h. le-ltb a b h ∙ sym (le-ltb c d (g h))) (below-or-above a b)
