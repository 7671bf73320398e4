-- Blocks of bits in the numbering of FIPS 46: a block of w bits is a number below 2 ^ w, and its bit 1 is the leftmost.
use Rattle.std.specs.Prelude.{ℕ, ◌+◌, ◌-◌, ◌*◌, ◌/◌, ◌%◌, ◌^◌, List, [], ◌∷◌, map}

-- bit p of a block of w bits
abbrev pub bit : ℕ → ℕ → ℕ → ℕ
bit w x p = x / 2 ^ (w - p) % 2

-- a block, and after it blocks of w bits, one after the other
unfoldable pub continued : ℕ → ℕ → List ℕ → ℕ
continued w a [] = a
continued w a (x ∷ xs) = continued w (a * 2 ^ w + x) xs

-- blocks of w bits, one after the other, as one block
abbrev pub joined : ℕ → List ℕ → ℕ
joined w xs = continued w 0 xs

-- what a table makes of a block of w bits: the bits at the table's places, in the table's order
unfoldable pub permuted : ℕ → List ℕ → ℕ → ℕ
permuted w table x = joined 1 (map (bit w x) table)

-- group j, from 1 on, of six bits of a block of 48 bits
abbrev pub group : ℕ → ℕ → ℕ
group x j = x / 2 ^ (48 - 6 * j) % 2 ^ 6

-- the numbers of the eight groups, and of the eight S boxes
abbrev pub eight : List ℕ
eight = 1 ∷ 2 ∷ 3 ∷ 4 ∷ 5 ∷ 6 ∷ 7 ∷ 8 ∷ []

-- the eight groups of a block of 48 bits, from the left
unfoldable pub groups : ℕ → List ℕ
groups x = map (group x) eight
