-- The DES key of a password (RFC 4777, section 5.1): the padded password, eight bytes as one number, is XORed with 55X
-- and shifted left by one bit as a whole; the top bit is lost.
use Rattle.std.specs.Prelude.{ℕ, ◌*◌, ◌%◌, ◌^◌}
use Rattle.std.specs.Int.Bits.{bit_xor}

abbrev pub prepared : ℕ → ℕ
prepared padded = bit_xor padded 0x5555555555555555 * 2 % 2 ^ 64
