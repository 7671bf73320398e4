-- An order on the line, what the printer's ledger has of it, and what goes back (RFC 4777, section 11).
use Rattle.std.specs.Prelude.{◌≡◌, ℕ, true, List, [], ◌∷◌, ◌++◌, replicate, if◌then◌else◌, None, Some, Ok, Err}
use Rattle.octets.specs.Ascii.{ascii}
use Rattle.octets.specs.Lent.{Outcome, outcome}
use Rattle.octets.specs.Part.{part}
use Rattle.telnet.specs.declared.Verb.TheVariants.{Do}
use Rattle.telnet.specs.Event.{Event, run, negotiation}
use Rattle.telnet_records.specs.Promise.{Answer, record_at}
use Rattle.option_sides.specs.Session.{all_off}
use Rattle.option_line.specs.declared.Sent.{Sent}
use Rattle.option_line.specs.Line.{heard_on}
use Rattle.print_ledger.specs.declared.Ledger.{Ledger}
use Rattle.print_ledger.specs.Ledger.{fresh, take_frame, print_complete}
use Rattle.show_event.specs.Sent.{sent_at, sent_all, record_events}

-- TIMING-MARK (RFC 860), which is not carried
abbrev pub timing_mark : ℕ
timing_mark = 6

-- a print frame of 30 bytes, as far as its first run goes
abbrev pub first_run : Event
first_run = run (0x00 ∷ 0x1E ∷ 0x12 ∷ 0xA0 ∷ 0x01 ∷ 0x01 ∷ 0x04 ∷ 0x18 ∷ 0x00 ∷ 0x01 ∷ ascii "STEP DOWN")

-- the rest of it, with a byte 255 that is data
abbrev pub second_run : List ℕ
second_run = ascii " 40 MW" ++ 0xFF ∷ 0x0D ∷ 0x0A ∷ 0x0C ∷ 0x00 ∷ []

-- all of it, with an option command between
abbrev pub order : List Event
order = first_run ∷ negotiation Do timing_mark ∷ record_events second_run

-- the order sent, and the place of the option command
unfoldable pub ordered : List ℕ → ℕ → Outcome ℕ
ordered down at = outcome (sent_at first_run down at).answer (sent_all order down at).lent

abbrev pub length_of : Answer → ℕ
length_of (Ok (Some r)) = r.length
length_of (Ok None) = 0
length_of (Err e) = 0

-- the bytes of a record that was read into a buffer
abbrev pub bytes_read : Outcome Answer → List ℕ
bytes_read o = part o.lent 0 (length_of o.answer)

-- a fresh ledger that was given the record at a place
unfoldable pub ledger_by : List ℕ → ℕ → Ledger
ledger_by down at = (take_frame fresh (bytes_read (record_at down at (replicate 512 0)))).ledger

-- the place after what was put on a line, and the line
abbrev pub placed : Outcome Sent → Outcome ℕ
placed o = outcome o.answer.place o.lent

-- the answer to what is at a place
unfoldable pub replied : (down : List ℕ) (from : ℕ) (up : List ℕ) (at : ℕ) → Outcome ℕ
replied down from up at = placed (heard_on all_off down from true up at)

-- events after what was sent
abbrev pub sent_after : List Event → Outcome ℕ → Outcome ℕ
sent_after es o = sent_all es o.lent o.answer

-- print complete for what is held
abbrev pub completed : Ledger → List Event
completed l = if l.held then record_events print_complete else []

-- the order and what goes back for it, on both lines from a place of each on
pub record Played (down : List ℕ) (down_at : ℕ) (up : List ℕ) (up_at : ℕ) (after : ℕ) (down' up' : List ℕ) : Type 0 where
  pub sent : down' ≡ (ordered down down_at).lent
  pub heard_back : outcome after up' ≡ sent_after (completed (ledger_by down' down_at)) (replied down' (ordered down down_at).answer up up_at)
