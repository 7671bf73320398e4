-- A profile and its record (specification, "Tokens, substitutes, verdicts", "Profile table"): "a two-byte big-endian
-- length of what follows (30 + n), flags (01X enabled, 02X DES allowed, others 0), n from 1 to 10, the raised name in
-- ASCII, 8-byte DES token, 20-byte SHA-1 token".
use Rattle.std.specs.Prelude.{ℕ, zero, suc, ◌+◌, ◌*◌, ◌/◌, ◌%◌, Bool, false, List, [], ◌∷◌, ◌++◌, eqb, length, get_or, take, drop, if◌then◌else◌}
use Rattle.words.specs.BigEndian.{bytes}

-- What a version of the table says of a record: how many of the flags are used, from the lowest on, and how long each
-- token is.
pub record Shape : Type 0 where
  pub marks : ℕ
  pub tokens : List ℕ

-- version 1: two flags, a DES token and a SHA-1 token
abbrev pub version1 : Shape
version1 = record { marks = 2; tokens = 8 ∷ 20 ∷ [] }

-- the shape of the records of a version: version 1 is the only one
unfoldable pub shape_of : (version : ℕ) → Shape
shape_of version = version1

-- a profile: its flags as marks, its name, and its tokens
pub record Profile : Type 0 where
  pub marks : List Bool
  pub name : List ℕ
  pub tokens : List (List ℕ)

-- 01X, "enabled", and 02X, "DES allowed"
abbrev pub enabled : Profile → Bool
enabled p = get_or p.marks 0 false

abbrev pub des_allowed : Profile → Bool
des_allowed p = get_or p.marks 1 false

-- the DES token, and the SHA-1 token
abbrev pub stored_des : Profile → List ℕ
stored_des p = get_or p.tokens 0 []

abbrev pub stored_sha : Profile → List ℕ
stored_sha p = get_or p.tokens 1 []

-- marks as a byte, the first mark in the lowest bit
unfoldable pub flags_byte : List Bool → ℕ
flags_byte [] = 0
flags_byte (m ∷ ms) = (if m then 1 else 0) + 2 * flags_byte ms

-- the k lowest bits of a byte as marks
unfoldable pub marks_of : ℕ → ℕ → List Bool
marks_of zero b = []
marks_of (suc k) b = eqb (b % 2) 1 ∷ marks_of k (b / 2)

-- tokens one after the other
unfoldable pub token_bytes : List (List ℕ) → List ℕ
token_bytes [] = []
token_bytes (t ∷ ts) = t ++ token_bytes ts

-- bytes as tokens of given lengths
unfoldable pub tokens_of : List ℕ → List ℕ → List (List ℕ)
tokens_of [] bs = []
tokens_of (n ∷ ns) bs = take n bs ∷ tokens_of ns (drop n bs)

-- the sum of lengths
unfoldable pub sum_of : List ℕ → ℕ
sum_of [] = 0
sum_of (n ∷ ns) = n + sum_of ns

-- the length that a record of a shape says, with a name of n bytes: "30 + n" in version 1
abbrev pub body_length : Shape → ℕ → ℕ
body_length s n = 2 + (n + sum_of s.tokens)

-- and how long the record is, with the two bytes that say it
abbrev pub record_length : Shape → ℕ → ℕ
record_length s n = 2 + body_length s n

-- what comes after the length: flags, n, name, tokens
abbrev pub body_of : Profile → List ℕ
body_of p = flags_byte p.marks ∷ length p.name ∷ (p.name ++ token_bytes p.tokens)

-- the record of a profile
unfoldable pub record_bytes : Profile → List ℕ
record_bytes p = bytes 2 (length (body_of p)) ++ body_of p
