-- The laws of `decimal`: a number of one digit, the last digit of a longer one, and how many digits a number has.
-- Assumes nothing.
use mathlib.Core.Path.{◌≡◌, refl, sym, ap, ◌∙◌}
use mathlib.Core.Logic.{⊎_elim}
use mathlib.Core.List.{[], ◌∷◌, ◌++◌}
use Prim.Native.Nat.{ℕ, zero, suc, ◌+◌, ◌-◌, ◌/◌, ◌%◌, ◌^◌, ◌≤◌, ◌<◌}
use native.Mathlib.Nat.{pow-suc, not-suc-le-zero, div-eq_of_lt, mod-eq_of_lt}
use native.Mathlib.Omega.{arith}
use lib.ListN.{length, length-append}
use Rattle.octets.specs.Decimal.{digit, digits, decimal}
use Rattle.octets.proofs.Order.{below-or-above}

digits-zero : (k : ℕ) → digits k 0 ≡ []
unfolding digits
digits-zero zero = refl
digits-zero (suc k) = refl

-- any two bounds that are large enough give the same digits
enough : (k j n : ℕ) → n ≤ k → n ≤ j → digits k n ≡ digits j n
unfolding digits
enough zero j zero h g = sym (digits-zero j)
enough zero j (suc m) h g = absurd (not-suc-le-zero h)
enough (suc k) j zero h g = sym (digits-zero j)
enough (suc k) zero (suc m) h g = absurd (not-suc-le-zero g)
enough (suc k) (suc j) (suc m) h g = rw (enough k j (suc m / 10) (omega arith) (omega arith))

above_zero : (n : ℕ) → 0 < n → decimal n ≡ digits n n
unfolding decimal
above_zero zero h = absurd (not-suc-le-zero h)
above_zero (suc m) h = refl

pub decimal-short : (n : ℕ) → n < 10 → decimal n ≡ digit n ∷ []
unfolding decimal digits
decimal-short zero h = refl
decimal-short (suc m) h = rw (div-eq_of_lt h, digits-zero m, mod-eq_of_lt h)

pub decimal-long : (n : ℕ) → 10 ≤ n → decimal n ≡ decimal (n / 10) ++ digit (n % 10) ∷ []
unfolding decimal digits
decimal-long zero h = absurd (not-suc-le-zero h)
decimal-long (suc m) h = rw (above_zero (suc m / 10) (omega arith), enough m (suc m / 10) (suc m / 10) (omega arith) (omega arith))

pub length-decimal-short : (n : ℕ) → n < 10 → length (decimal n) ≡ 1
length-decimal-short n h = ap length (decimal-short n h)

pub length-decimal-long : (n : ℕ) → 10 ≤ n → length (decimal n) ≡ length (decimal (n / 10)) + 1
length-decimal-long n h = ap length (decimal-long n h) ∙ length-append (decimal (n / 10)) (digit (n % 10) ∷ [])

pub length-decimal-pos : (n : ℕ) → 1 ≤ length (decimal n)
length-decimal-pos n = ⊎_elim (λ s. omega (arith, length-decimal-short n s)) (λ l. omega (arith, length-decimal-long n l)) (below-or-above n 10)

pub length-decimal-lt : (d n : ℕ) → n < 10 ^ suc d → length (decimal n) ≤ suc d
length-decimal-lt zero n h = omega (arith, length-decimal-short n h)
length-decimal-lt (suc d) n h =
    let e = pow-suc 10 (suc d) in
    ⊎_elim (λ s. omega (arith, length-decimal-short n s)) (λ l. omega (arith, length-decimal-long n l, length-decimal-lt d (n / 10) (omega (arith, e)))) (below-or-above n 10)

pub length-decimal-word : (n : ℕ) → n < 2 ^ 64 → length (decimal n) ≤ 20
length-decimal-word n h = length-decimal-lt 19 n (omega arith)

-- the least and the greatest of a word, by computation
least : decimal 0 ≡ 48 ∷ []
unfolding decimal digits
least = refl

greatest : decimal (2 ^ 64 - 1) ≡ 49 ∷ 56 ∷ 52 ∷ 52 ∷ 54 ∷ 55 ∷ 52 ∷ 52 ∷ 48 ∷ 55 ∷ 51 ∷ 55 ∷ 48 ∷ 57 ∷ 53 ∷ 53 ∷ 49 ∷ 54 ∷ 49 ∷ 53 ∷ []
unfolding decimal digits
greatest = refl
