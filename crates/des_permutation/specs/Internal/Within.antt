-- What the private function that permutes by a table wants of it.
use Rattle.std.specs.Prelude.{Bool, true, ◌&&◌, List, [], ◌∷◌, ℕ, leb}

-- each place of a table is one of 1 to w
abbrev pub places_within : ℕ → List ℕ → Bool
places_within w [] = true
places_within w (p ∷ ps) = leb 1 p && leb p w && places_within w ps
