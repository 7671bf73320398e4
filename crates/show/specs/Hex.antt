-- Bytes as hexadecimal digits in ASCII, two a byte, the higher first.
use Rattle.std.specs.Prelude.{ℕ, ◌+◌, ◌*◌, ◌/◌, ◌%◌, List, [], ◌∷◌, ◌++◌, ltb, if◌then◌else◌}

-- the value of a digit, of either case; some value for every other byte
unfoldable pub digit_value : ℕ → ℕ
digit_value c = (c % 16 + (if ltb c 58 then 0 else 9)) % 16

-- the byte that two digits say
abbrev pub byte_of : (high low : ℕ) → ℕ
byte_of high low = 16 * digit_value high + digit_value low

-- the bytes that pairs of digits say; a digit that is left over says none
unfoldable pub hex_bytes : List ℕ → List ℕ
hex_bytes [] = []
hex_bytes (high ∷ []) = []
hex_bytes (high ∷ low ∷ rest) = byte_of high low ∷ hex_bytes rest

-- the digit of a value below 16, lower case
unfoldable pub hex_digit : ℕ → ℕ
hex_digit d = if ltb d 10 then 48 + d else 87 + d

-- the two digits of a byte
abbrev pub hex_pair : ℕ → List ℕ
hex_pair b = hex_digit (b / 16) ∷ hex_digit (b % 16) ∷ []

-- the digits of each byte, after the same words each
unfoldable pub digits_after : (words bytes : List ℕ) → List ℕ
digits_after words [] = []
digits_after words (b ∷ bs) = (words ++ hex_pair b) ++ digits_after words bs

-- the digits of each byte
abbrev pub hex_text : List ℕ → List ℕ
hex_text bytes = digits_after [] bytes

-- the same with a blank before each byte
abbrev pub spaced_text : List ℕ → List ℕ
spaced_text bytes = digits_after (32 ∷ []) bytes
