-- DES password substitutes: RFC 4777, section 5.1, in its own names (with - for _) and the order of its steps.
-- Passwords and user identifiers are lists of EBCDIC bytes, raised; a block of eight bytes is one number, its first
-- byte the highest, as in the crate `des`, which has the cipher; steps 2 and 3 are in `des_schedule`.
use Rattle.std.specs.Prelude.{ℕ, ◌+◌, ◌-◌, ◌*◌, ◌/◌, ◌%◌, ◌^◌, ltb, List, [], ◌∷◌, map, length, take, drop, bit_xor, nat_lt, slice_index, if◌then◌else◌}
use Rattle.words.specs.BigEndian.{number}
use Rattle.words.specs.Word.{sum}
use Rattle.names.specs.Padding.{filled}
use Rattle.names.specs.Ebcdic.{blank}
use Rattle.des.specs.Blocks.{eight}
use Rattle.des.specs.Cipher.{enciphered, chained}
use Rattle.des_schedule.specs.Password.{prepared}
use Rattle.des.specs.Schedule.{round_keys}

-- 1) a password, padded to the right with 40X to 8 bytes
abbrev pub Padded-PW : List ℕ → ℕ
Padded-PW PW = number (filled blank 8 PW)

-- 2), 3) XORed with 55X and shifted
abbrev pub SHIFT-RESULT : List ℕ → ℕ
SHIFT-RESULT PW = prepared (Padded-PW PW)

-- byte i, from 1 on, of an identifier
abbrev pub byte : List ℕ → ℕ → ℕ
byte ID i = slice_index ID (i - 1)

-- the j-th pair of bits of a byte, from 0 on: bits 2j and 2j + 1, where bit 0 is the high-order bit
abbrev pub pair : (b j : ℕ) → ℕ
pair b j = b / 2 ^ (6 - 2 * j) % 4

-- 4) byte i of a folded identifier of ten bytes: its bits 0 and 1 are XORed with a pair of byte 9 (bytes 1 to 4) or
-- byte 10 (bytes 5 to 8)
abbrev pub folded_byte : List ℕ → ℕ → ℕ
folded_byte ID i = bit_xor (byte ID i) (pair (byte ID (9 + (i - 1) / 4)) ((i - 1) % 4) * 2 ^ 6)

-- bytes 9 and 10 folded into bytes 1 to 8
unfoldable pub folded : List ℕ → List ℕ
folded ID = map (folded_byte ID) eight

-- the block that a user identifier is: one of 9 or 10 bytes is padded to ten and folded, a shorter one padded to eight
unfoldable pub user_id : List ℕ → ℕ
user_id ID = number (if ltb 8 (length ID) then folded (filled blank 10 ID) else filled blank 8 ID)

-- the token of a password of at most eight bytes
abbrev pub token_of : (PW ID : List ℕ) → ℕ
token_of PW ID = enciphered (SHIFT-RESULT PW) (user_id ID)

-- 4), 8) PW-TOKEN, for lengths 9 and 10 PW-TOKENa xor PW-TOKENb: of characters 1 to 8, and of those after them
unfoldable pub PW-TOKEN : (PW ID : List ℕ) → ℕ
PW-TOKEN PW ID = if nat_lt 8 (length PW) then bit_xor (token_of (take 8 PW) ID) (token_of (drop 8 PW) ID) else token_of PW ID

-- 5) "it is always one"
abbrev pub PWSEQs : ℕ
PWSEQs = 1

-- 6) the server seed RDr plus the sequence number, in eight bytes
abbrev pub RDrSEQ : ℕ → ℕ
RDrSEQ RDr = sum 64 RDr PWSEQs

-- the user identifier padded with 40X to 16 bytes
abbrev pub padded_id : List ℕ → List ℕ
padded_id ID = filled blank 16 ID

-- 7) the blocks of data, where RDs is the client seed
abbrev pub data_blocks : (RDr RDs : ℕ) → List ℕ → List ℕ
data_blocks RDr RDs ID =
    RDrSEQ RDr
    ∷ RDs
    ∷ bit_xor (number (take 8 (padded_id ID))) (RDrSEQ RDr)
    ∷ bit_xor (number (drop 8 (padded_id ID))) (RDrSEQ RDr)
    ∷ PWSEQs
    ∷ []

-- the last block of their chain, from eight bytes of zeros
unfoldable pub PW-SUB : (token RDr RDs : ℕ) → List ℕ → ℕ
PW-SUB token RDr RDs ID = chained (round_keys token) 0 (data_blocks RDr RDs ID)
