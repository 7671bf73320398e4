-- Enciphering by FIPS 46, figures 1 and 2: the cipher function f, sixteen iterations between the two permutations, and
-- a chain of blocks.
use Rattle.std.specs.Prelude.{ℕ, ◌+◌, ◌-◌, ◌*◌, ◌/◌, ◌%◌, ◌^◌, List, [], ◌∷◌, map, get_or}
use Rattle.std.specs.Int.Bits.{bit_xor}
use Rattle.des.specs.Blocks.{joined, permuted, group, eight}
use Rattle.des.specs.Tables.{IP, IP⁻¹, E, P, Box, S₁, S₂, S₃, S₄, S₅, S₆, S₇, S₈}
use Rattle.des.specs.Schedule.{round_keys}

-- four bits from six: the first and the last bit of B are the row's number, the four between them the column's
unfoldable pub selected : Box → ℕ → ℕ
selected S B = get_or (get_or S (permuted 6 (1 ∷ 6 ∷ []) B) []) (permuted 6 (2 ∷ 3 ∷ 4 ∷ 5 ∷ []) B) 0

-- the selection function S_j, j from 1 to 8
abbrev pub S : ℕ → Box
S j = get_or (S₁ ∷ S₂ ∷ S₃ ∷ S₄ ∷ S₅ ∷ S₆ ∷ S₇ ∷ S₈ ∷ []) (j - 1) []

-- B_j: group j of K ⊕ E(R)
abbrev pub B : ℕ → List ℕ → ℕ → ℕ
B R K j = bit_xor (group (permuted 32 E R) j) (get_or K (j - 1) 0)

-- the cipher function, figure 2: P of S₁(B₁) S₂(B₂) .. S₈(B₈)
unfoldable pub f : ℕ → List ℕ → ℕ
f R K = permuted 32 P (joined 4 (map (λ j. selected (S j) (B R K j)) eight))

-- the preoutput block: each iteration makes R the new L, and L ⊕ f(R, K) the new R; the last R comes before the last L
unfoldable pub preoutput : ℕ → ℕ → List (List ℕ) → ℕ
preoutput L R [] = R * 2 ^ 32 + L
preoutput L R (K ∷ Ks) = preoutput R (bit_xor L (f R K)) Ks

-- the output block under given round keys, figure 1
unfoldable pub output : List (List ℕ) → ℕ → ℕ
output Ks input = permuted 64 IP⁻¹ (preoutput (permuted 64 IP input / 2 ^ 32) (permuted 64 IP input % 2 ^ 32) Ks)

-- the output block under a key
abbrev pub enciphered : ℕ → ℕ → ℕ
enciphered key input = output (round_keys key) input

-- cipher block chaining (FIPS 81): each block is added to what the block before it gave, and enciphered; with no block,
-- what came before
unfoldable pub chained : List (List ℕ) → ℕ → List ℕ → ℕ
chained Ks before [] = before
chained Ks before (x ∷ xs) = chained Ks (output Ks (bit_xor before x)) xs
