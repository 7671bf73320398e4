-- What is proved of frames: each refusal is given exactly where its sentence in the specification's table holds and
-- none before it does. The proofs are in `proofs/Limits.antt` and `proofs/Sentences.antt`.
use Rattle.std.specs.Prelude.{◌≡◌, List, ◌↔◌, ◌⊎◌, ℕ, ◌+◌, ◌*◌, ◌%◌, ◌<◌, length, get_or, Ok, Err}
use Rattle.octets.specs.Bytes.{Bytes}
use Rattle.print_frame.specs.declared.Frame.{Frame}
use Rattle.refusal.specs.declared.Refusal.{Refusal}
use Rattle.refusal.specs.declared.Refusal.TheVariants.{BadFrameLength, BadRecordType, BadDataFlow, BadHeaderLength, ReservedFlag, BadOperation}
use Rattle.refusal.specs.Refusal.{number}
use Rattle.print_frame.specs.Frame.{frame_of}

-- the byte at a place, from 0 on, and LLLL, the number in the first two
abbrev pub at : (f : List ℕ) (place : ℕ) → ℕ
at f place = get_or f place 0

abbrev pub LLLL : (f : List ℕ) → ℕ
LLLL f = 256 * at f 0 + at f 1

-- what a frame is refused by, 40 to 45
pub data Fault : Type 0 where
  frame_length record_type data_flow header_length reserved_flag operation : Fault

abbrev pub number_of : Fault → ℕ
number_of frame_length = 40
number_of record_type = 41
number_of data_flow = 42
number_of header_length = 43
number_of reserved_flag = 44
number_of operation = 45

-- the refusal that says so
abbrev pub refusal_for : Fault → Refusal
refusal_for frame_length = BadFrameLength
refusal_for record_type = BadRecordType
refusal_for data_flow = BadDataFlow
refusal_for header_length = BadHeaderLength
refusal_for reserved_flag = ReservedFlag
refusal_for operation = BadOperation

-- the sentence of each number in "Refusal numbers"; the reserved flags are those of "Printer frames", "07X of the first
-- flag byte, all of the second"
abbrev pub Sentence : (f : List ℕ) → Fault → Type 0
-- "frame under 10 bytes, or LLLL not its length"
Sentence f frame_length = (length f < 10) ⊎ (LLLL f ≡ length f → ⊥)
-- "bytes 2 and 3 not 12 A0"
Sentence f record_type = (at f 2 ≡ 0x12) × (at f 3 ≡ 0xA0) → ⊥
-- "data flow not 0101, 0102, 1101 or 1102"
Sentence f data_flow = ((at f 4 ≡ 0x01) ⊎ (at f 4 ≡ 0x11)) × ((at f 5 ≡ 0x01) ⊎ (at f 5 ≡ 0x02)) → ⊥
-- "LL under 4, or 6 + LL over LLLL"
Sentence f header_length = (at f 6 < 4) ⊎ (LLLL f < 6 + at f 6)
-- "a reserved flag bit set"
Sentence f reserved_flag = (at f 7 % 8 ≡ 0) × (at f 8 ≡ 0) → ⊥
-- "operation code not 01 or 02"
Sentence f operation = (at f 9 ≡ 0x01) ⊎ (at f 9 ≡ 0x02) → ⊥

-- none of the sentences before one holds ("40 to 45 ascending")
abbrev pub NoneBefore : (f : List ℕ) → Fault → Type 0
NoneBefore f k = (j : Fault) → number_of j < number_of k → Sentence f j → ⊥

-- none of them holds
abbrev pub NoFault : (f : List ℕ) → Type 0
NoFault f = (k : Fault) → Sentence f k → ⊥

-- what is read of some bytes
pub record IsRead (f : List ℕ) : Type 0 where
  pub frame : Frame
  pub read : frame_of f ≡ Ok frame

pub record Judged (f : List ℕ) : Type 0 where
  pub refused : (k : Fault) → (frame_of f ≡ Err (refusal_for k)) ↔ (Sentence f k × NoneBefore f k)
  pub numbered : (k : Fault) → number (refusal_for k) ≡ number_of k
  pub is_read : IsRead f ↔ NoFault f

-- A frame is refused by a number exactly where its sentence holds and none before it does, and read exactly where none
-- holds.
abbrev pub FrameIsItsSentence : Type 0
FrameIsItsSentence = (f : List ℕ) → Bytes f → Judged f

-- So one that is too long to say its length is refused by 40: its first two bytes are at most 255.
abbrev pub TooLongToSay : Type 0
TooLongToSay = (f : List ℕ) → at f 0 < 256 → at f 1 < 256 → 65535 < length f → frame_of f ≡ Err BadFrameLength
