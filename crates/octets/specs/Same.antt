-- Equality of lists of bytes, as a test.
use Rattle.std.specs.Prelude.{◌≡◌, Bool, true, false, ◌&&◌, ◌↔◌, List, [], ◌∷◌, ℕ, T, eqb}

-- two lists are the same, byte by byte
unfoldable pub same : List ℕ → List ℕ → Bool
same [] [] = true
same [] (c ∷ cs) = false
same (b ∷ bs) [] = false
same (b ∷ bs) (c ∷ cs) = eqb b c && same bs cs

-- The test says yes exactly where the two are equal. The proof is in `proofs/Equality.antt`.
abbrev pub SameIsEqual : Type 0
SameIsEqual = (a b : List ℕ) → T (same a b) ↔ (a ≡ b)
