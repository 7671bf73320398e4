-- The padding of a message: FIPS 180-4, section 5.1, over the bits of a block, B, and of the length after it, L: 512
-- and 64 for SHA-1 and SHA-256, 1024 and 128 for SHA-512. Messages are bytes, so the bit 1 with the zeros after it is a
-- byte 128 and bytes 0.
use Rattle.std.specs.Prelude.{◌≡◌, List, ◌∷◌, ◌++◌, ℕ, ◌+◌, ◌-◌, ◌*◌, ◌/◌, ◌%◌, ◌≤◌, ◌<◌, length, replicate}
use Rattle.words.specs.BigEndian.{bytes}

-- how many zero bits come after the bit 1 of a message of ℓ bits
unfoldable pub zero_bits : ℕ → ℕ → ℕ → ℕ
zero_bits B L ℓ = B - 1 - (ℓ + L) % B

-- what the standard says of their number k: it is the smallest, non-negative solution of ℓ + 1 + k ≡ B − L (mod B)
pub record Smallest (B L ℓ k : ℕ) : Type 0 where
  pub solves : (ℓ + 1 + k) % B ≡ B - L
  pub least : (j : ℕ) → (ℓ + 1 + j) % B ≡ B - L → k ≤ j

-- Their number is that. The proof is in `proofs/Padding.antt`.
abbrev pub FewestZeroBits : Type 0
FewestZeroBits = (B L ℓ : ℕ) → 0 < L → L ≤ B → Smallest B L ℓ (zero_bits B L ℓ)

-- what is appended to a message of n bytes: the bit 1, the zeros, and the length in L bits. The standard hashes no
-- message of 2 ^ L bits or more; here the length of a longer one is written modulo 2 ^ L.
unfoldable pub padding : ℕ → ℕ → ℕ → List ℕ
padding B L n = 128 ∷ (replicate (zero_bits B L (8 * n) / 8) 0 ++ bytes (L / 8) (8 * n))

unfoldable pub padded : ℕ → ℕ → List ℕ → List ℕ
padded B L message = message ++ padding B L (length message)
