-- The padding argument, over the sizes: the number of zero bits is the standard's, a padded message fills whole blocks,
-- and how many. Assumes nothing.
use mathlib.Core.Path.{◌≡◌, sym, ◌∙◌}
use mathlib.Core.List.{List}
use Prim.Native.Nat.{ℕ, suc, ◌+◌, ◌-◌, ◌*◌, ◌/◌, ◌%◌, ◌≤◌, ◌<◌}
use native.Mathlib.Nat.{div-add-mod', mod-lt, mod_self, mod-add-mod, sub-add_cancel}
use native.Mathlib.Nat.{mul-add, mul-div_cancel, mul-div-mul_left, mul-le-mul_right, lt_of_mul-lt-mul_right}
use native.Mathlib.Omega.{arith}
use lib.Arith.{digits_mod}
use lib.ListN.{length, length-append, length-replicate}
use Rattle.words.specs.Blocks.{cut}
use Rattle.words.specs.Padding.{zero_bits, FewestZeroBits, padding, padded}
use Rattle.words.proofs.BigEndian.{length-bytes}
use Rattle.words.proofs.Blocks.{length_cut}

-- message, bit 1, zeros and length are whole blocks
filled : (B L ℓ : ℕ) → 0 < B → ℓ + 1 + zero_bits B L ℓ + L ≡ (ℓ + L) / B * B + B
unfolding zero_bits
filled B L ℓ h = omega (arith, div-add-mod' (ℓ + L) B, mod-lt (ℓ + L) h)

zeros-solve : (B L ℓ : ℕ) → 0 < L → L ≤ B → (ℓ + 1 + zero_bits B L ℓ) % B ≡ B - L
zeros-solve B L ℓ h g =
    let b : 0 < B = omega arith in
    let l : B - L < B = omega arith in
    let e : ℓ + 1 + zero_bits B L ℓ ≡ (ℓ + L) / B * B + (B - L) = omega (arith, filled B L ℓ b) in
    rw e (digits_mod ((ℓ + L) / B) l)

-- another solution with the length after it ends at a block's end too, after the blocks that the message and the length
-- alone fill
zeros-least : (B L ℓ : ℕ) → L ≤ B → (j : ℕ) → (ℓ + 1 + j) % B ≡ B - L → zero_bits B L ℓ ≤ j
unfolding zero_bits
zeros-least B L ℓ g j e =
    let s = (ℓ + 1 + j + L) / B in
    let p = (ℓ + L) / B in
    let z : (ℓ + 1 + j + L) % B ≡ 0 = sym (mod-add-mod (ℓ + 1 + j) B L) ∙ rw (e, sub-add_cancel g, mod_self) in
    let whole : s * B ≡ ℓ + 1 + j + L = omega (arith, div-add-mod' (ℓ + 1 + j + L) B) in
    let part : p * B + (ℓ + L) % B ≡ ℓ + L = div-add-mod' (ℓ + L) B in
    let more : p * B < s * B = omega arith in
    omega (arith, mul-le-mul_right {m = suc p} {n = s} B (lt_of_mul-lt-mul_right B more))

pub fewest-zero-bits : FewestZeroBits
fewest-zero-bits B L ℓ h g = record { solves = zeros-solve B L ℓ h g; least = zeros-least B L ℓ g }

-- for blocks of b bytes and a length of f bytes, after a message of n bytes
module _ (b f : ℕ) (h : 0 < b) where
  -- the byte with the bit 1, the zero bytes and the length fill the block in which they begin, or that and the next
  pub zero-bytes : (n : ℕ) → n + 1 + zero_bits (8 * b) (8 * f) (8 * n) / 8 + f ≡ (n + f) / b * b + b
  zero-bytes n =
      let q : (8 * n + 8 * f) / (8 * b) ≡ (n + f) / b = rw (← mul-add 8 n f) (mul-div-mul_left (n + f) b (omega arith)) in
      omega (arith, rw q at (filled (8 * b) (8 * f) (8 * n) (omega arith)))

  length-padding : (n : ℕ) → length (padding (8 * b) (8 * f) n) ≡ 1 + zero_bits (8 * b) (8 * f) (8 * n) / 8 + f
  unfolding padding
  length-padding n = simp (length-append, length-replicate, length-bytes) (omega arith)

  pub length-padded : (m : List ℕ) → length (padded (8 * b) (8 * f) m) ≡ (length m + f) / b * b + b
  unfolding padded
  length-padded m = rw (length-append, length-padding) (omega (arith, zero-bytes (length m)))

  pub number-of-blocks : (m : List ℕ) → length (cut b (padded (8 * b) (8 * f) m)) ≡ (length m + f) / b + 1
  number-of-blocks m =
      let e : (length m + f) / b * b + b ≡ ((length m + f) / b + 1) * b = omega arith in
      rw (length_cut, length-padded, e) (mul-div_cancel ((length m + f) / b + 1) h)
