-- Numbers that name the cases of an enum, where every other number reads as one of them: a case is named by its own
-- number alone. Assumes nothing.
use mathlib.Core.Path.{◌≡◌, sym, ap, ◌∙◌}
use mathlib.Core.Logic.{◌↔◌, ◌⊎◌, ⊎_elim}
use Prim.Native.Nat.{ℕ}

module _ {A : Type 0} (number : A → ℕ) (named : ℕ → A) (other : A) (reads : (n : ℕ) → (number (named n) ≡ n) ⊎ (named n ≡ other)) where
  pub exactly : (x : A) → named (number x) ≡ x → (number other ≡ number x → ⊥) → (n : ℕ) → (named n ≡ x) ↔ (n ≡ number x)
  exactly x back differs n = (
    λ e. ⊎_elim (λ r. sym r ∙ ap number e) (λ r. absurd (differs (ap number (sym r ∙ e)))) (reads n),
    λ e. ap named e ∙ back,
  )
