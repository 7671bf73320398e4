-- The last blocks of a padded message, those after the last whole block of the message itself, for blocks of b bytes
-- and a length of f.
use Rattle.std.specs.Prelude.{ℕ, ◌+◌, ◌-◌, ◌*◌, ◌/◌, List, ◌∷◌, ◌++◌, length, replicate}
use Rattle.words.specs.BigEndian.{bytes}

-- where they end, for the last n bytes of a message: in the block where those begin, or in the next
abbrev pub end : ℕ → ℕ → ℕ → ℕ
end b f n = (n + f) / b * b + b

-- what is left of the message, the bit 1, zeros, and the length in bits
unfoldable pub tail : ℕ → ℕ → List ℕ → ℕ → List ℕ
tail b f rest ℓ = rest ++ 128 ∷ (replicate (end b f (length rest) - (length rest + 1 + f)) 0 ++ bytes f ℓ)
