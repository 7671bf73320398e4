-- Two functions that agree on a range of numbers, by one computed test of their tables. Assumes nothing.
use mathlib.Core.Path.{◌≡◌}
use mathlib.Core.List.{List, [], ◌∷◌}
use mathlib.Core.Logic.{⊎_elim}
use Prim.Native.Nat.{ℕ, zero, suc, ◌+◌, ◌≤◌, ◌<◌}
use native.Mathlib.Omega.{arith}
use Rattle.octets.proofs.Order.{below-or-above}

-- the answers of a function at n numbers, from one on
abbrev pub table : {A : Type 0} → (ℕ → A) → ℕ → ℕ → List A
table f from zero = []
table f from (suc n) = f from ∷ table f (suc from) n

pub agree : {A : Type 0} (f g : ℕ → A) (from n : ℕ) → table f from n ≡ table g from n → (b : ℕ) → from ≤ b → b < from + n → f b ≡ g b
agree f g from zero e b h k = absurd (omega arith)
agree f g from (suc n) e b h k =
    ⊎_elim
    (λ (s : b < suc from). let i : b ≡ from = omega arith in let first : f from ≡ g from = cc in rw (i, first))
    (λ l. agree f g (suc from) n (cc) b l (omega arith))
    (below-or-above b (suc from))
