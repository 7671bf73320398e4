-- Words as text: the codes of their characters, which in ASCII are their bytes.
use Rattle.std.specs.Prelude.{ℕ, List, [], ◌∷◌}
use Prim.Native.Char.{code}
use Prim.Native.String.{String, [] as ε, ◌∷◌ as ◌▸◌}

-- the code of each character
abbrev pub ascii : String → List ℕ
ascii ε = []
ascii (c ▸ rest) = code c ∷ ascii rest
