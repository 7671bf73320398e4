-- What a mask tests: the mask of one bit that bit, 07X the three reserved ones. Assumes nothing.
use mathlib.Core.Path.{◌≡◌, refl, ◌∙◌}
use mathlib.Core.Bool.{Bool, true, false, not, ◌||◌}
use Prim.Native.Nat.{ℕ, zero, suc, ◌+◌, ◌-◌, ◌*◌, ◌/◌, ◌%◌, ◌^◌, ◌<◌}
use lib.Pow.{pow_pos, mod-pow-add}
use native.Mathlib.Omega.{arith}
use lib.Dec.{eqb}
use lib.Bits.{bit_and, and_mask, and_high}
use borrow.Author.Tests.{eqb-true, eqb-false, eq-eqb, ne_eqb}
use Rattle.print_frame.specs.Frame.{is_set, is_reserved}

one-or-none : (x m : ℕ) → x < 2 → 0 < m → not (eqb (x * m) 0) ≡ eqb x 1
one-or-none zero m h k = rw (eq-eqb (0 * m) 0 (omega arith))
one-or-none (suc zero) m h k = rw (ne_eqb (1 * m) 0 (λ e. omega arith))
one-or-none (suc (suc x)) m h k = absurd (omega arith)

pub one_bit : (b j : ℕ) → not (eqb (bit_and b (2 ^ (1 + j) - 2 ^ j)) 0) ≡ eqb (b / 2 ^ j % 2) 1
one_bit b j = rw (and_high b 1 j) (one-or-none (b / 2 ^ j % 2) (2 ^ j) (omega arith) (pow_pos j))

zero_bit : (x : ℕ) → (x % 2 ≡ 1 → ⊥) → x % 2 ≡ 0
zero_bit x h = omega arith

pub low-three : (b c : ℕ) → is_reserved b c ≡ not (eqb (bit_and b 7) 0) || not (eqb c 0)
unfolding is_reserved
low-three b c = rw (and_mask b 3) (go (is_set 5 b) (is_set 6 b) (is_set 7 b) refl refl refl)
  where
    some : (b % 8 ≡ 0 → ⊥) → true ≡ not (eqb (b % 8) 0) || not (eqb c 0)
    some h = rw (ne_eqb (b % 8) 0 h)

    go : (x y z : Bool)
        → is_set 5 b ≡ x → is_set 6 b ≡ y → is_set 7 b ≡ z → x || y || z || not (eqb c 0) ≡ not (eqb (b % 8) 0) || not (eqb c 0)
    go true y z p q r = let e = eqb-true (b / 4 % 2) 1 p in some (λ h. omega arith)
    go false true z p q r = let e = eqb-true (b / 2 % 2) 1 q in some (λ h. omega arith)
    go false false true p q r = let e = eqb-true (b / 1 % 2) 1 r in some (λ h. omega arith)
    go false false false p q r =
        let e = zero_bit (b / 4) (eqb-false (b / 4 % 2) 1 p) in
        let f = zero_bit (b / 2) (eqb-false (b / 2 % 2) 1 q) in
        let g = zero_bit (b / 1) (eqb-false (b / 1 % 2) 1 r) in
        rw (eq-eqb (b % 8) 0 (mod-pow-add b 1 2 ∙ rw (e, mod-pow-add b 1 1, f) (omega arith)))
