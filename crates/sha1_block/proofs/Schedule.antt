-- The laws of the schedule: the next word is the block's, or made of the words before it. Assumes nothing.
use Rattle.std.proofs.Common.{◌≡◌, ℕ, suc, ◌+◌, ◌-◌, ◌*◌, ◌<◌, ◌≤◌, List, [], ◌∷◌, ◌++◌, length, get_or, take, drop, append-nil, arith, length-drop, length-take-le, drop-cons, get_or-take, drop-drop}
use native.Mathlib.Numerals.{towards_suc}
use lib.Bits.{bit_xor}
use lib.Seq.{append_snoc}
use Rattle.words.specs.BigEndian.{number}
use Rattle.words.specs.Blocks.{words_of}
use Rattle.words.proofs.Blocks.{cut_short, words_step}
use Rattle.sha1_hash.specs.Sha1.{ROTL, back, next, extended}
use Rattle.sha1_block.specs.Internal.Between.{planned}

-- the word i back from t, of an array whose first t words are there
back-take : (t i : ℕ) (w : List ℕ) → t ≤ length w → 0 < i → i ≤ t → back (take t w) i ≡ get_or w (t - i) 0
back-take t i w h p g =
    let l : t - i < t = omega arith in
    rw (length-take-le t w h) (get_or-take t w (t - i) 0 l)

-- and the next word, by the array's places
pub next-take : (t : ℕ) (w : List ℕ) → 16 ≤ t → t ≤ length w
    → next (take t w) ≡ ROTL 1 (bit_xor (bit_xor (bit_xor (get_or w (t - 3) 0) (get_or w (t - 8) 0)) (get_or w (t - 14) 0)) (get_or w (t - 16) 0))
next-take t w g h =
    let back_at : (i : ℕ) → 0 < i → i ≤ 16 → back (take t w) i ≡ get_or w (t - i) 0 = λ i p q. back-take t i w h p (omega arith) in
    rw (
      back_at 3 (omega arith) (omega arith),
      back_at 8 (omega arith) (omega arith),
      back_at 14 (omega arith) (omega arith),
      back_at 16 (omega arith) (omega arith),
    )

-- the four bytes at a place
pub take-four : (l : List ℕ) (i : ℕ) → i + 4 ≤ length l
    → take 4 (drop i l) ≡ get_or l i 0 ∷ get_or l (i + 1) 0 ∷ get_or l (i + 2) 0 ∷ get_or l (i + 3) 0 ∷ []
take-four l i h =
    rw (
      drop-cons l i 0 (omega arith),
      drop-cons l (suc i) 0 (omega arith),
      drop-cons l (suc (suc i)) 0 (omega arith),
      drop-cons l (suc (suc (suc i))) 0 (omega arith),
    )
    (simp towards_suc)

-- the block's next word
pub planned-taken : (block u : List ℕ) (t : ℕ) → t < 16 → 4 * t + 4 ≤ length block
    → planned block (t + 1) (u ++ number (take 4 (drop (4 * t) block)) ∷ []) ≡ planned block t u
planned-taken block u t g h =
    let n : 64 - (t - 16) ≡ 64 = omega arith in
    let m : 64 - (t + 1 - 16) ≡ 64 = omega arith in
    let s : 4 * (t + 1) ≡ 4 * t + 4 = omega arith in
    let k : 4 ≤ length (drop (4 * t) block) = rw length-drop (omega arith) in
    rw (n, m, s, append_snoc, words_step 4 (drop (4 * t) block) (omega arith) k, drop-drop)

-- no word of the block is left
pub none_left : (block : List ℕ) (t : ℕ) → length block ≤ 4 * t → words_of 4 (drop (4 * t) block) ≡ []
unfolding words_of
none_left block t h = rw (cut_short 4 (drop (4 * t) block) (rw length-drop (omega arith)))

-- and then the word made of those before it
pub planned-made : (block u : List ℕ) (t : ℕ) → length block ≡ 64 → 16 ≤ t → t < 80 → planned block (t + 1) (u ++ next u ∷ []) ≡ planned block t u
unfolding extended
planned-made block u t e g h =
    let n : 64 - (t - 16) ≡ suc (64 - (t + 1 - 16)) = omega arith in
    rw (none_left block t (omega arith), none_left block (t + 1) (omega arith), append-nil (u ++ next u ∷ []), append-nil u, n)
