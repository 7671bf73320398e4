-- A text that is put piece by piece: bytes that have no mark, and what a piece leaves to put.
use Rattle.std.specs.Prelude.{◌≡◌, List, ◌++◌, ℕ, ◌+◌, length, take, drop}
use Rattle.octets.specs.Lent.{overwrite}
use Rattle.octets_marked.specs.Marked.{marked}

-- none of n bytes at a place has a mark: they are put as they are, and then what is after them
abbrev pub Plain : (mark low high : ℕ) → List ℕ → (at n : ℕ) → Type 0
Plain mark low high s at n = marked mark low high (drop at s) ≡ take n (drop at s) ++ marked mark low high (drop (at + n) s)

-- the bytes from place i to place j were put: what is still to be put, after them, is what was to be put
pub record Further (mark low high : ℕ) (s : List ℕ) (i : ℕ) (before : List ℕ) (k j r : ℕ) (left : List ℕ) : Type 0 where
  pub place : r + length (marked mark low high (drop j s)) ≡ k + length (marked mark low high (drop i s))
  pub lent : overwrite left r (marked mark low high (drop j s)) ≡ overwrite before k (marked mark low high (drop i s))
