-- The laws of the numbers of pairs: how many there are, and those from a place on. Assumes nothing.
use mathlib.Core.Path.{◌≡◌, refl}
use mathlib.Core.List.{List, [], ◌∷◌}
use Prim.Native.Nat.{ℕ, ◌+◌, ◌/◌, ◌≤◌, ◌<◌}
use native.Mathlib.Omega.{arith}
use lib.ListN.{length, get_or, drop, length-drop}
use Rattle.octets.proofs.Front.{empty, pair-front}
use Rattle.show_numbers.specs.Numbers.{number_of, number_in, numbers_of}

pub no-pair : (s : List ℕ) → length s < 2 → number_in s ≡ 0
unfolding number_in
no-pair [] h = refl
no-pair (b ∷ []) h = refl
no-pair (a ∷ b ∷ s) h = absurd (omega arith)

pub number-there : (s : List ℕ) (i : ℕ) → i + 1 < length s → number_in (drop i s) ≡ number_of (get_or s i 0) (get_or s (i + 1) 0)
unfolding number_in
number-there s i h = rw (pair-front s i h)

pub length-numbers : (s : List ℕ) → length (numbers_of s) ≡ length s / 2
unfolding numbers_of
length-numbers [] = refl
length-numbers (b ∷ []) = refl
length-numbers (a ∷ b ∷ s) = omega (arith, length-numbers s)

pub numbers-next : (s : List ℕ) (i : ℕ) → i + 1 < length s → numbers_of (drop i s) ≡ number_in (drop i s) ∷ numbers_of (drop (i + 1 + 1) s)
unfolding number_in numbers_of
numbers-next s i h = rw (pair-front s i h)

-- after the last pair there are no numbers
pub numbers-none : (s : List ℕ) (i : ℕ) → length s ≤ i + 1 → numbers_of (drop i s) ≡ []
numbers-none s i h = empty (numbers_of (drop i s)) (rw (length-numbers, length-drop) (omega arith))
