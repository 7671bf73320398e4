-- The S boxes: they look at six bits only and give four; and what is at a place of their array. Assumes nothing.
use mathlib.Core.Path.{◌≡◌, ap, ap₂, sym, ◌∙◌}
use Prim.Native.Nat.{ℕ, zero, suc, ◌+◌, ◌*◌, ◌/◌, ◌%◌, ◌^◌, ◌<◌}
use native.Mathlib.Nat.{add-zero, zero-add, add-suc, suc-add, not-suc-le-zero, le_of_suc-le-suc}
use native.Mathlib.Omega.{arith}
use lib.Bits.{bit_and, and_mask, mask_lt}
use lib.Dec.{T, ltb, ltb→lt}
use lib.ListN.{get_or}
use lib.Pow.{field, mod-mod-pow}
use Rattle.des.specs.Blocks.{continued, permuted}
use Rattle.des.specs.Cipher.{S, selected}
use Rattle.des_cipher.specs.Internal.Boxes.{listed, box_array}
use Rattle.des.specs.Tables.{Box}
use Rattle.des.proofs.Each.{each, at}

pub listed_at : {A : Type 0} (g : ℕ → A) (n i k : ℕ) (d : A) → k < n → get_or (listed g i n) k d ≡ g (i + k)
listed_at g zero i k d h = absurd (not-suc-le-zero h)
listed_at g (suc n) i zero d h = ap g (sym (add-zero i))
listed_at g (suc n) i (suc k) d h = listed_at g n (suc i) k d (le_of_suc-le-suc h) ∙ ap g (suc-add i k ∙ sym (add-suc i k))

-- six bits decide
low_bit : (b j k : ℕ) → b % 2 ^ (j + 1 + k) / 2 ^ k % 2 ≡ b / 2 ^ k % 2
low_bit b j k = rw (field b (j + 1) k) (mod-mod-pow (b / 2 ^ k) j 1)

pub selected-low : (box : Box) (b : ℕ) → selected box b ≡ selected box (b % 64)
unfolding selected permuted continued
selected-low box b = rw (low_bit b 0 5, low_bit b 1 4, low_bit b 2 3, low_bit b 3 2, low_bit b 4 1, low_bit b 5 0)

pub within : (j n : ℕ) → j < 8 → 64 * j + bit_and n 63 < 512
within j n h = omega (arith, mask_lt n 6)

pub entry_at : (j n : ℕ) → j < 8 → get_or box_array (64 * j + bit_and n 63) 0 ≡ selected (S (suc j)) n
unfolding box_array
entry_at j n h =
    let b = bit_and n 63 in
    let small : b < 64 = mask_lt n 6 in
    let box : (64 * j + b) / 64 ≡ j = omega arith in
    let bits : (64 * j + b) % 64 ≡ n % 64 = rw (← and_mask n 6) (omega arith) in
    listed_at (λ i. selected (S (suc (i / 64))) (i % 64)) 512 0 (64 * j + b) 0 (within j n h)
    ∙ ap (λ (i : ℕ). selected (S (suc (i / 64))) (i % 64)) (zero-add (64 * j + b)) ∙ ap₂ (λ (i m : ℕ). selected (S (suc i)) m) box bits
    ∙ sym (selected-low (S (suc j)) n)

small : T (each (λ j. each (λ b. ltb (selected (S (suc j)) b) 16) 64) 8)
unfolding selected permuted continued
small = tt

pub selected-lt : (j b : ℕ) → j < 8 → selected (S (suc j)) b < 16
selected-lt j b h =
    rw (selected-low (S (suc j)) b)
    (ltb→lt (selected (S (suc j)) (b % 64)) 16
    (at (λ m. ltb (selected (S (suc j)) m) 16) 64
    (at (λ i. each (λ m. ltb (selected (S (suc i)) m) 16) 64) 8 small j h)
    (b % 64) (omega arith)))
