-- What comes before a byte.
use Rattle.std.specs.Prelude.{ℕ, List, [], ◌∷◌, eqb, if◌then◌else◌}

-- what comes before the first byte b; all where there is none
unfoldable pub up_to : ℕ → List ℕ → List ℕ
up_to b [] = []
up_to b (c ∷ cs) = if eqb c b then [] else c ∷ up_to b cs
