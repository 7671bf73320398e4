-- The cipher function box by box: what the boxes still to come give, after what the others gave, is the whole. Assumes
-- nothing.
use mathlib.Core.Path.{◌≡◌, sym, ap, ap₂, ◌∙◌}
use mathlib.Core.List.{List, map}
use Prim.Native.Nat.{ℕ, suc, ◌+◌, ◌-◌, ◌*◌, ◌%◌, ◌^◌, ◌<◌}
use native.Mathlib.Nat.{lt_of_lt_of_le}
use native.Mathlib.Numerals.{add-one}
use native.Mathlib.Omega.{arith}
use lib.Bits.{bit_xor, bit_or, or_shifted}
use lib.ListN.{get_or, drop}
use lib.Pow.{pow-add, pow_mono}
use lib.Seq.{drop-cons}
use Rattle.des.specs.Blocks.{continued, joined, permuted, group, eight}
use Rattle.des.specs.Cipher.{S, B, selected, f}
use Rattle.des.specs.Tables.{P, E}
use Rattle.des_cipher.proofs.Selection.{listed_at}
use Rattle.des.proofs.Sizes.{permuted-lt}

-- S₁(B₁) .. S₈(B₈)
unfoldable pub chosen : ℕ → List ℕ → List ℕ
chosen R K = map (λ j. selected (S j) (B R K j)) eight

chosen_at : (R : ℕ) (K : List ℕ) (j : ℕ) → j < 8 → get_or (chosen R K) j 0 ≡ selected (S (suc j)) (B R K (suc j))
unfolding chosen
chosen_at R K j h =
    let e : 1 + j ≡ suc j = omega arith in
    listed_at (λ i. selected (S i) (B R K i)) 8 1 j 0 h ∙ ap (λ (i : ℕ). selected (S i) (B R K i)) e

-- four bits more after the 4 * j that are in a
pub after : (a s j : ℕ) → a < 2 ^ (4 * j) → j < 8 → s < 16 → bit_or (a * 2 ^ 4 % 2 ^ 64) s ≡ a * 2 ^ 4 + s
after a s j h i k =
    let small : a < 2 ^ 28 = lt_of_lt_of_le h (pow_mono {i = 4 * j} {j = 28} (omega arith)) in
    let e : a * 2 ^ 4 % 2 ^ 64 ≡ a * 2 ^ 4 = omega arith in
    rw e (or_shifted a 4 s k)

pub room : (a s j : ℕ) → a < 2 ^ (4 * j) → s < 16 → a * 2 ^ 4 + s < 2 ^ (4 * (j + 1))
room a s j h k =
    let e : 4 * (j + 1) ≡ 4 * j + 4 = omega arith in
    rw (e, pow-add 2 (4 * j) 4) (omega arith)

pub one_more : (R : ℕ) (K : List ℕ) (a j : ℕ) → j < 8
    → continued 4 a (drop j (chosen R K)) ≡ continued 4 (a * 2 ^ 4 + selected (S (suc j)) (B R K (suc j))) (drop (j + 1) (chosen R K))
unfolding continued chosen
one_more R K a j h = rw (add-one, drop-cons (chosen R K) j 0 h, chosen_at R K j h)

-- all eight
pub whole : (R : ℕ) (K : List ℕ) (a j : ℕ) → j ≡ 8 → continued 4 a (drop j (chosen R K)) ≡ joined 4 (chosen R K) → permuted 32 P a ≡ f R K
unfolding f continued chosen
whole R K a j e h = ap (permuted 32 P) (rw e at h)

pub f_lt : (R : ℕ) (K : List ℕ) → f R K < 2 ^ 32
unfolding f chosen
f_lt R K = permuted-lt 32 P (joined 4 (chosen R K))

-- what a box gives for the sum that the code makes, it gives for B
pub looked : (R : ℕ) (K : List ℕ) (j x r : ℕ) → r ≡ selected (S (suc j)) (bit_xor (x % 2 ^ 6) (get_or K j 0)) → group (permuted 32 E R) (suc j) ≡ x % 2 ^ 6
    → r ≡ selected (S (suc j)) (B R K (suc j))
looked R K j x r q e =
    let i : j ≡ suc j - 1 = omega arith in
    q ∙ ap₂ (λ (y k : ℕ). selected (S (suc j)) (bit_xor y (get_or K k 0))) (sym e) i
