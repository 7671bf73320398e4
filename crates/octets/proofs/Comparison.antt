-- The laws of the loop that compares. Assumes nothing.
use mathlib.Core.Path.{◌≡◌, refl}
use mathlib.Core.Bool.{Bool, true, false, ◌&&◌}
use mathlib.Core.List.{List, [], ◌∷◌}
use Prim.Native.Nat.{ℕ}
use native.Mathlib.Omega.{arith}
use borrow.Author.Tests.{eqb-true, eqb-false, ne_eqb}
use lib.Bits.{bit_or, bit_xor, or_zero_l, or_add_and, and_le_l, and_le_r, xor_add_and, xor_self}
use lib.Dec.{eqb}
use lib.ListN.{length}
use Rattle.octets.specs.Same.{same}

-- one more pair of bytes, whose difference is kept with those before it
xor-zero : (x y : ℕ) → eqb (bit_xor x y) 0 ≡ eqb x y
xor-zero x y = by-test (eqb x y) refl
  where
    by-test : (t : Bool) → eqb x y ≡ t → eqb (bit_xor x y) 0 ≡ t
    by-test true e = rw (eqb-true x y e, xor_self)
    by-test false e = ne_eqb (bit_xor x y) 0 (λ z. eqb-false x y e (omega (arith, xor_add_and x y, and_le_l x y, and_le_r x y)))

or-zero : (d e : ℕ) → eqb (bit_or d e) 0 ≡ eqb d 0 && eqb e 0
or-zero d e = by-test (eqb d 0) refl
  where
    by-test : (t : Bool) → eqb d 0 ≡ t → eqb (bit_or d e) 0 ≡ t && eqb e 0
    by-test true z = rw (eqb-true d 0 z, or_zero_l)
    by-test false z = ne_eqb (bit_or d e) 0 (λ n. eqb-false d 0 z (omega (arith, or_add_and d e, and_le_r d e)))

and_again : (a b c : Bool) → (a && b) && c ≡ a && (b && c)
and_again true b c = refl
and_again false b c = refl

pub one_more : (d x y : ℕ) (a b : List ℕ)
    → eqb (bit_or d (bit_xor x y)) 0 && same a b ≡ eqb d 0 && same (x ∷ a) (y ∷ b)
unfolding same
one_more d x y a b = rw (or-zero, xor-zero) (and_again (eqb d 0) (eqb x y) (same a b))

pub none_left : (t : Bool) (a b : List ℕ) → length a ≡ 0 → length b ≡ 0 → t && same a b ≡ t
unfolding same
none_left true [] [] e h = refl
none_left false [] [] e h = refl
none_left t [] (y ∷ b) e h = absurd (omega (arith, h))
none_left t (x ∷ a) b e h = absurd (omega (arith, e))
