-- The laws of pieces: one more, none, how many, and those of a list with more after it.
-- Assumes nothing.
use mathlib.Core.Path.{◌≡◌, refl, ap}
use mathlib.Core.List.{List, [], ◌∷◌, ◌++◌}
use Prim.Native.Nat.{ℕ, zero, suc, ◌+◌, ◌*◌, ◌/◌, ◌%◌, ◌≤◌, ◌<◌}
use native.Mathlib.Nat.{div-eq_of_lt, div-eq-sub-div, div-add-mod', mod-lt, zero-mul}
use native.Mathlib.Numerals.{add-one}
use native.Mathlib.Omega.{arith}
use lib.ListN.{length, take, drop, length-drop, length-append}
use lib.Seq.{take-append-le, drop-append-le, drop-drop}
use Rattle.words.specs.BigEndian.{number}
use Rattle.words.specs.Blocks.{pieces, cut, words_of}

pub cut_step : (k : ℕ) (l : List ℕ) → 0 < k → k ≤ length l → cut k l ≡ take k l ∷ cut k (drop k l)
unfolding cut pieces
cut_step k l h g = rw (div-eq-sub-div h g, add-one, length-drop)

pub cut_short : (k : ℕ) (l : List ℕ) → length l < k → cut k l ≡ []
unfolding cut pieces
cut_short k l h = rw (div-eq_of_lt h)

pub words_step : (k : ℕ) (l : List ℕ) → 0 < k → k ≤ length l → words_of k l ≡ number (take k l) ∷ words_of k (drop k l)
unfolding words_of
words_step k l h g = rw (cut_step k l h g)

length-pieces : (n k : ℕ) (l : List ℕ) → length (pieces n k l) ≡ n
unfolding pieces
length-pieces zero k l = refl
length-pieces (suc n) k l = ap suc (length-pieces n k (drop k l))

pub length_cut : (k : ℕ) (l : List ℕ) → length (cut k l) ≡ length l / k
unfolding cut
length_cut k l = length-pieces (length l / k) k l

-- the pieces of the first of two lists, and of what is left of it with the second
pub cut-append : (k : ℕ) (l t : List ℕ) → 0 < k → cut k (l ++ t) ≡ cut k l ++ cut k (drop (length l / k * k) l ++ t)
cut-append k l t h = go (length l / k) l refl
  where
    whole : (n : ℕ) (m : List ℕ) → length m / k ≡ n → n * k + length m % k ≡ length m
    whole n m e = rw e at (div-add-mod' (length m) k)

    go : (n : ℕ) (m : List ℕ) → length m / k ≡ n → cut k (m ++ t) ≡ cut k m ++ cut k (drop (n * k) m ++ t)
    go zero m e =
        let g : length m < k = omega (arith, whole zero m e, mod-lt (length m) h) in
        rw (cut_short k m g, zero-mul)
    go (suc n) m e =
        let g : k ≤ length m = omega (arith, whole (suc n) m e) in
        let b : k ≤ length (m ++ t) = rw length-append (omega arith) in
        let r : length (drop k m) / k ≡ n = rw length-drop (omega (arith, div-eq-sub-div h g)) in
        let s : k + n * k ≡ suc n * k = omega arith in
        let d : drop (n * k) (drop k m) ≡ drop (suc n * k) m = rw drop-drop (ap (λ i. drop i m) s) in
        rw (cut_step k (m ++ t) h b, take-append-le k m t g, drop-append-le k m t g, cut_step k m h g, ← d)
        (ap (λ q. take k m ∷ q) (go n (drop k m) r))
