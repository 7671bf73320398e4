-- The laws of the hexadecimal texts: the value of a digit is below 16, how long each text is, and a text from one of
-- its bytes on. Assumes nothing.
use mathlib.Core.Path.{◌≡◌, sym, refl}
use mathlib.Core.List.{List, [], ◌∷◌, ◌++◌}
use Prim.Native.Nat.{ℕ, ◌+◌, ◌*◌, ◌/◌, ◌≤◌, ◌<◌}
use native.Mathlib.Omega.{arith}
use native.Mathlib.Nat.{mul-suc, mul-zero}
use lib.ListN.{length, get_or, drop, length-append, length-drop, drop_of_length-le}
use Rattle.octets.proofs.Front.{empty, at_front, pair-front}
use Rattle.show.specs.Hex.{digit_value, byte_of, hex_bytes, hex_pair, digits_after}

pub digit-below : (c : ℕ) → digit_value c < 16
unfolding digit_value
digit-below c = omega arith

pub length-bytes : (s : List ℕ) → length (hex_bytes s) ≡ length s / 2
unfolding hex_bytes
length-bytes [] = refl
length-bytes (h ∷ []) = refl
length-bytes (h ∷ l ∷ s) = omega (arith, length-bytes s)

pub bytes_next : (s : List ℕ) (i : ℕ) → i + 1 < length s → hex_bytes (drop i s) ≡ byte_of (get_or s i 0) (get_or s (i + 1) 0) ∷ hex_bytes (drop (i + 1 + 1) s)
unfolding hex_bytes
bytes_next s i h = rw (pair-front s i h)

pub length-digits : (w s : List ℕ) → length (digits_after w s) ≡ (length w + 2) * length s
unfolding digits_after
length-digits w [] = sym (mul-zero (length w + 2))
length-digits w (b ∷ s) = simp (length-append, length-digits w s) (omega (arith, mul-suc (length w + 2) (length s)))

pub digits-next : (w s : List ℕ) (i : ℕ) → i < length s → digits_after w (drop i s) ≡ (w ++ hex_pair (get_or s i 0)) ++ digits_after w (drop (i + 1) s)
unfolding digits_after
digits-next w s i h = rw (at_front s i h)

-- after the last byte there are no digits
pub bytes-none : (s : List ℕ) (i : ℕ) → length s ≤ i + 1 → hex_bytes (drop i s) ≡ []
bytes-none s i h = empty (hex_bytes (drop i s)) (rw (length-bytes, length-drop) (omega arith))

pub digits-none : (w s : List ℕ) (i : ℕ) → length s ≤ i → digits_after w (drop i s) ≡ []
unfolding digits_after
digits-none w s i h = rw (drop_of_length-le s {i = i} h)
