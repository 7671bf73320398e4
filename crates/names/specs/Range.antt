-- Ranges of bytes, and a test of each byte of a text.
use Rattle.std.specs.Prelude.{Bool, true, ◌&&◌, List, [], ◌∷◌, ℕ, leb}

-- whether a byte lies in a range, its two ends included
abbrev pub in_range : (low high b : ℕ) → Bool
in_range low high b = leb low b && leb b high

-- whether each byte of a text passes a test
unfoldable pub every : (ℕ → Bool) → List ℕ → Bool
every test [] = true
every test (b ∷ bs) = test b && every test bs
