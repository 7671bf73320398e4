-- The key schedule of FIPS 46, figure 3: from a key of 64 bits sixteen round keys of 48 bits, each as its eight groups
-- of six bits.
use Rattle.std.specs.Prelude.{ℕ, ◌+◌, ◌-◌, ◌*◌, ◌/◌, ◌%◌, ◌^◌, List, [], ◌∷◌}
use Rattle.des.specs.Blocks.{permuted, groups}
use Rattle.des.specs.Tables.{PC-1, PC-2, shifts}

-- 28 bits shifted left by n places, the bits that leave on the left coming back on the right
abbrev pub rotated : ℕ → ℕ → ℕ
rotated n c = c * 2 ^ n % 2 ^ 28 + c / 2 ^ (28 - n)

-- the round keys that the blocks C and D give in the iterations still to come
unfoldable pub keys_from : ℕ → ℕ → List ℕ → List (List ℕ)
keys_from C D [] = []
keys_from C D (n ∷ ns) = groups (permuted 56 PC-2 (rotated n C * 2 ^ 28 + rotated n D)) ∷ keys_from (rotated n C) (rotated n D) ns

-- K₁ .. K₁₆: C₀ and D₀ are the halves of permuted choice 1 of the key
unfoldable pub round_keys : ℕ → List (List ℕ)
round_keys key = keys_from (permuted 64 PC-1 key / 2 ^ 28) (permuted 64 PC-1 key % 2 ^ 28) shifts
