-- The worked lines of the specification that are marked P ("Worked lines of the line"), in its order, as one list of
-- cases.
use Rattle.std.specs.Prelude.{◌≡◌, Bool, false, ◌&&◌, List, [], ◌∷◌, ◌++◌, ℕ, T, replicate, Result, Ok, Err}
use Rattle.refusal.specs.declared.Refusal.{Refusal}
use Rattle.refusal.specs.declared.Refusal.TheVariants.{CutShort, PayloadTooLong, BadCommand, NotIsOrInfo, BadHeaderLength, BadTable}
use Rattle.octets.specs.Ascii.{ascii}
use Rattle.names.specs.Ebcdic.{ebcdic_of}
use Rattle.password_des.specs.Des.{SHIFT-RESULT, user_id, RDrSEQ}
use Rattle.env.specs.Variable.{defined, Variable, variable, IS, VAR}
use Rattle.env.specs.Write.{escaped, payload_of}
use Rattle.env.specs.Read.{Reading, says, not_read, reading_of}
use Rattle.telnet.specs.Event.{run, subnegotiation, iac, sb, se}
use Rattle.telnet.specs.Read.{Front, found, refused, event_of}
use Rattle.option_rules.specs.declared.Command.TheVariants.{On as on}
use Rattle.option_rules.specs.declared.Side.{Side}
use Rattle.option_rules.specs.declared.Side.TheVariants.{On}
use Rattle.option_rules.specs.Table.{Row, carried, rules_of}
use Rattle.option_ends.specs.Ends.{End, near, far, other, request, receive, Call, ◌does◌, ends, fresh, CallResult, after, count_where, sends, same}
use Rattle.print_frame.specs.declared.Direction.TheVariants.{Outbound}
use Rattle.print_frame.specs.declared.Operation.TheVariants.{Print}
use Rattle.print_frame.specs.declared.Frame.{Frame}
use Rattle.print_frame.specs.Frame.{flags_of, frame_of}
use Rattle.profile.specs.Table as Table

-- a case, by its subject: an input, and what it gives
pub data Case : Type 0 where
  -- the DES key of a password, the folded block of a name, RDrSEQ of a server seed
  des_key : List ℕ → ℕ → Case
  folds : List ℕ → ℕ → Case
  rdr_seq : ℕ → ℕ → Case
  -- a value as it is written, and the reading of a payload of NEW-ENVIRON
  is_written : List ℕ → List ℕ → Case
  is_read : List ℕ → Reading → Case
  -- the event at the front of bytes
  stands : List ℕ → Front → Case
  -- both ends of an option request on
  both_request_on : Case
  -- a printer frame
  is_frame : List ℕ → Result Frame Refusal → Case
  -- a profile table
  is_table : List ℕ → Table.TableReading → Case

-- each end requests on, and then each receives: the first to request, and to receive, is one end or the other, and each
-- accepts or declines
unfoldable pub two_requests : End → End → Bool → Bool → List Call
two_requests x y a b = (x does request on) ∷ (other x does request on) ∷ (y does receive a) ∷ (other y does receive b) ∷ []

-- one end sends a command
unfoldable pub sends_at : End → End → CallResult → Bool
sends_at x e r = same x e && sends e r

-- each end sends one command, and both rest on
pub record RestOn (rules : Side → Row) (calls : List Call) : Type 0 where
  pub near_sends_one : count_where (sends_at near) rules fresh calls ≡ 1
  pub far_sends_one : count_where (sends_at far) rules fresh calls ≡ 1
  pub rest_on : after rules fresh calls ≡ ends On [] On []

-- what a case says
abbrev pub Holds : Case → Type 0
Holds (des_key password key) = SHIFT-RESULT (ebcdic_of password) ≡ key
Holds (folds name block) = user_id (ebcdic_of name) ≡ block
Holds (rdr_seq seed sum) = RDrSEQ seed ≡ sum
Holds (is_written value bytes) = escaped value ≡ bytes
Holds (is_read payload reading) = reading_of payload ≡ reading
Holds (stands bytes front) = event_of bytes ≡ front
Holds both_request_on = (option : ℕ) → T (carried option) → (x y : End) (a b : Bool) → RestOn (rules_of option) (two_requests x y a b)
Holds (is_frame bytes answer) = frame_of bytes ≡ answer
Holds (is_table bytes reading) = Table.table_of bytes ≡ reading

abbrev pub AllHold : List Case → Type 0
AllHold [] = Unit {0}
AllHold (c ∷ cs) = Holds c × AllHold cs

-- VAR A with a value of n letters A: written, 4 + n bytes
abbrev pub letters_a : ℕ → List Variable
letters_a n = variable VAR (ascii "A") (defined (replicate n 0x41)) ∷ []

-- 255 250 24, n letters A, 255 240
abbrev pub subnegotiation_of : ℕ → List ℕ
subnegotiation_of n = iac ∷ sb ∷ 24 ∷ (replicate n 0x41 ++ iac ∷ se ∷ [])

-- an outbound print frame of ten bytes, with a given LL
abbrev pub ten_bytes : ℕ → List ℕ
ten_bytes ll = 0x00 ∷ 0x0A ∷ 0x12 ∷ 0xA0 ∷ 0x01 ∷ 0x01 ∷ ll ∷ 0x00 ∷ 0x00 ∷ 0x01 ∷ []

-- as it is read with LL 04: neither diagnostic bytes nor data
abbrev pub print_of_nothing : Result Frame Refusal
print_of_nothing = Ok (record {
  direction = Outbound;
  diagnostics_included = false;
  flags = flags_of 0x00;
  operation = Print;
  diagnostics = record { place = 10; length = 0 };
  print_data = record { place = 10; length = 0 };
})

abbrev pub lines : List Case
lines =
    -- "password A gives DES key 28 2A 2A 2A 2A 2A 2A 2A"
    des_key (ascii "A") 0x282A2A2A2A2A2A2A
    -- "USERNAME12 folds to 24 22 C5 99 15 01 D4 45"
    ∷ folds (ascii "USERNAME12") 0x2422C5991501D445
    -- "server seed of eight FF gives RDrSEQ zero"
    ∷ rdr_seq 0xFFFFFFFFFFFFFFFF 0
    -- "value 01 02 03 is written 02 01 02 02 02 03"
    ∷ is_written (1 ∷ 2 ∷ 3 ∷ []) (2 ∷ 1 ∷ 2 ∷ 2 ∷ 2 ∷ 3 ∷ [])
    -- "payload 00 alone gives no variables; an empty payload gives 20"
    ∷ is_read (0 ∷ []) (says IS [])
    ∷ is_read [] (not_read NotIsOrInfo)
    -- "FF at the end gives 1; FF F0 gives 6; FF FF gives a run of one byte 255"
    ∷ stands (0xFF ∷ []) (refused CutShort)
    ∷ stands (0xFF ∷ 0xF0 ∷ []) (refused BadCommand)
    ∷ stands (0xFF ∷ 0xFF ∷ []) (found (run (255 ∷ [])))
    -- "a payload of 1,024 is read; 1,025 gives 3": on the line, and as environment strings
    ∷ stands (subnegotiation_of 1024) (found (subnegotiation 24 (replicate 1024 0x41)))
    ∷ stands (subnegotiation_of 1025) (refused PayloadTooLong)
    ∷ is_read (payload_of IS (letters_a 1020)) (says IS (letters_a 1020))
    ∷ is_read (payload_of IS (letters_a 1021)) (not_read PayloadTooLong)
    -- "both ends request on from Off: each sends one command, both rest On", in whatever order
    ∷ both_request_on
    -- "a ten-byte frame with LL 04 is read; LL 05 gives 43"
    ∷ is_frame (ten_bytes 0x04) print_of_nothing
    ∷ is_frame (ten_bytes 0x05) (Err BadHeaderLength)
    -- "table 01 is good and empty; 02 gives 30"
    ∷ is_table (0x01 ∷ []) (Table.profiles [])
    ∷ is_table (0x02 ∷ []) (Table.table_refused BadTable)
    ∷ []
