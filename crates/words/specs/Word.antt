-- Words of w bits, as numbers below 2 ^ w, and the operations that the secure hashes share: FIPS 180-4, sections 2.2.2,
-- 3.2 and 4.1.
use Rattle.std.specs.Prelude.{ℕ, ◌+◌, ◌-◌, ◌*◌, ◌/◌, ◌%◌, ◌^◌}
use Rattle.std.specs.Int.Bits.{bit_and, bit_or, bit_xor}

-- x + y, modulo 2 ^ w
abbrev pub sum : ℕ → ℕ → ℕ → ℕ
sum w x y = (x + y) % 2 ^ w

-- ¬ x
abbrev pub complement : ℕ → ℕ → ℕ
complement w x = 2 ^ w - 1 - x

-- x << n: the n bits that leave the word are lost
abbrev pub shl : ℕ → ℕ → ℕ → ℕ
shl w n x = x * 2 ^ n % 2 ^ w

-- x >> n
abbrev pub shr : ℕ → ℕ → ℕ
shr n x = x / 2 ^ n

-- ROTLⁿ(x) = (x << n) ∨ (x >> (w − n)), for n below w
unfoldable pub rotl : ℕ → ℕ → ℕ → ℕ
rotl w n x = bit_or (shl w n x) (shr (w - n) x)

-- Ch(x, y, z) = (x ∧ y) ⊕ (¬ x ∧ z)
unfoldable pub Ch : ℕ → ℕ → ℕ → ℕ → ℕ
Ch w x y z = bit_xor (bit_and x y) (bit_and (complement w x) z)

-- Parity(x, y, z) = x ⊕ y ⊕ z
unfoldable pub Parity : ℕ → ℕ → ℕ → ℕ
Parity x y z = bit_xor (bit_xor x y) z

-- Maj(x, y, z) = (x ∧ y) ⊕ (x ∧ z) ⊕ (y ∧ z)
unfoldable pub Maj : ℕ → ℕ → ℕ → ℕ
Maj x y z = bit_xor (bit_xor (bit_and x y) (bit_and x z)) (bit_and y z)
