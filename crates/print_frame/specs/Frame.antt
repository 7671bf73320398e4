-- Printer pass-through frames (RFC 4777, section 11, figure 3; specification, "Printer frames"). A frame is a list of
-- bytes. Bytes and bits are numbered as there, from 0, and bit 0 of a byte is its high bit.
use Rattle.std.specs.Prelude.{ℕ, ◌+◌, ◌-◌, ◌*◌, ◌/◌, ◌%◌, ◌^◌, Bool, true, false, not, ◌||◌, List, eqb, ltb, length, get_or, if◌then◌else◌, Result, Ok, Err}
use Rattle.print_frame.specs.declared.Direction.{Direction}
use Rattle.print_frame.specs.declared.Direction.TheVariants.{Outbound, Inbound}
use Rattle.print_frame.specs.declared.Operation.{Operation}
use Rattle.print_frame.specs.declared.Operation.TheVariants.{Print, Clear}
use Rattle.print_frame.specs.declared.Flags.{Flags}
use Rattle.print_frame.specs.declared.Part.{Part}
use Rattle.print_frame.specs.declared.Frame.{Frame}
use Rattle.refusal.specs.declared.Refusal.{Refusal}
use Rattle.refusal.specs.declared.Refusal.TheVariants.{BadFrameLength, BadRecordType, BadDataFlow, BadHeaderLength, ReservedFlag, BadOperation}

-- the byte at a place
abbrev pub byte : List ℕ → ℕ → ℕ
byte f k = get_or f k 0

-- the number in two bytes at a place, the high byte first
abbrev pub number_at : List ℕ → ℕ → ℕ
number_at f k = byte f k * 256 + byte f (k + 1)

-- whether bit k of a byte is set
abbrev pub is_set : (k b : ℕ) → Bool
is_set k b = eqb (b / 2 ^ (7 - k) % 2) 1

-- BYTES 0-1: length of structure including this field (LLLL)
abbrev pub structure_length : List ℕ → ℕ
structure_length f = number_at f 0

-- BYTES 2-3: GDS identifier
abbrev pub identifier : List ℕ → ℕ
identifier f = number_at f 2

-- BYTES 4-5: data flow record
abbrev pub data_flow : List ℕ → ℕ
data_flow f = number_at f 4

-- The data flow of a printer record (bit 7) in each direction, server-originated (outbound, bit 15) or
-- client-originated (inbound, bit 14), without and with diagnostic information (bit 3).
abbrev pub flow : Direction → Bool → ℕ
flow Outbound false = 0x0101
flow Inbound false = 0x0102
flow Outbound true = 0x1101
flow Inbound true = 0x1102

-- whether a data flow is one of the two in a direction
unfoldable pub goes : ℕ → Direction → Bool
goes w d = eqb w (flow d false) || eqb w (flow d true)

-- whether it is one of the four
unfoldable pub is_flow : ℕ → Bool
is_flow w = goes w Outbound || goes w Inbound

-- the direction of one of the four
unfoldable pub direction_of : ℕ → Direction
direction_of w = if goes w Outbound then Outbound else Inbound

-- that direction, or 42
abbrev pub direction_from : ℕ → Result Direction Refusal
direction_from w = if is_flow w then Ok (direction_of w) else Err BadDataFlow

-- BYTES 4-5, bit 3: diagnostic information included
abbrev pub diagnostics_included : List ℕ → Bool
diagnostics_included f = is_set 3 (byte f 4)

-- BYTE 6: length of the printer pass-through header including this field (LL)
abbrev pub header_length : List ℕ → ℕ
header_length f = byte f 6

-- BYTE 7: error indicator, intervention required, printer now ready, first of chain, last of chain
abbrev pub flags_of : ℕ → Flags
flags_of b = record {
  error = is_set 0 b;
  intervention_required = is_set 1 b;
  ready = is_set 2 b;
  first_of_chain = is_set 3 b;
  last_of_chain = is_set 4 b;
}

-- BYTES 7-8: reserved are bits 5 to 7 of the first and all of the second
unfoldable pub is_reserved : (b c : ℕ) → Bool
is_reserved b c = is_set 5 b || is_set 6 b || is_set 7 b || not (eqb c 0)

-- BYTE 9: printer operation code, '01'X "Print/Print complete", '02'X "Clear Print Buffers"
abbrev pub operation_code : Operation → ℕ
operation_code Print = 0x01
operation_code Clear = 0x02

-- whether a byte is one of the two
unfoldable pub is_operation : ℕ → Bool
is_operation b = eqb b (operation_code Print) || eqb b (operation_code Clear)

-- the operation of one of the two
unfoldable pub operation_of : ℕ → Operation
operation_of b = if eqb b (operation_code Print) then Print else Clear

-- that operation, or 45
abbrev pub operation_from : ℕ → Result Operation Refusal
operation_from b = if is_operation b then Ok (operation_of b) else Err BadOperation

-- where the data starts: LL counts from its own byte, which is byte 6 ("the print data will start in byte LL+1",
-- counted from there as 1)
abbrev pub data_place : List ℕ → ℕ
data_place f = 6 + header_length f

-- BYTE 10-LL: diagnostic information, up to the data
abbrev pub diagnostic_part : List ℕ → Part
diagnostic_part f = record { place = 10; length = data_place f - 10 }

-- the data, up to the end
abbrev pub data_part : List ℕ → Part
data_part f = record { place = data_place f; length = length f - data_place f }

-- what a frame that is not refused says
abbrev pub said : List ℕ → Frame
said f = record {
  direction = direction_of (data_flow f);
  diagnostics_included = diagnostics_included f;
  flags = flags_of (byte f 7);
  operation = operation_of (byte f 9);
  diagnostics = diagnostic_part f;
  print_data = data_part f;
}

-- the pass-through specific header, from LL on, with the refusals from 43 to 45
unfoldable pub header_of : List ℕ → Result Frame Refusal
header_of f =
    if ltb (header_length f) 4 || ltb (structure_length f) (data_place f) then Err BadHeaderLength else
    if is_reserved (byte f 7) (byte f 8) then Err ReservedFlag else
    if not (is_operation (byte f 9)) then Err BadOperation else
    Ok (said f)

-- a frame, with the refusals from 40 to 45; one over 65,535 bytes is 40, as no LLLL says its length
unfoldable pub frame_of : List ℕ → Result Frame Refusal
frame_of f =
    if ltb (length f) 10 || not (eqb (structure_length f) (length f)) then Err BadFrameLength else
    if not (eqb (identifier f) 0x12A0) then Err BadRecordType else
    if not (is_flow (data_flow f)) then Err BadDataFlow else
    header_of f
