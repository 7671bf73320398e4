-- What holds of every list of events and of every list of bytes (specification, "Framing": "Over lists of writable
-- events with no two runs adjacent, reading what was written gives the list; writing what was read without refusal
-- gives the bytes"). The proofs are in `proofs/RoundTrip.antt`, `proofs/Writable.antt`, `proofs/Unroll.antt`,
-- `proofs/Between.antt` and `proofs/Faults.antt`.
use Rattle.std.specs.Prelude.{◌≡◌, Bool, true, false, not, ◌&&◌, List, [], ◌∷◌, ◌++◌, ℕ, ◌+◌, T, length, drop}
use Rattle.octets.specs.Bytes.{Bytes}
use Rattle.refusal.specs.declared.Refusal.{Refusal}
use Rattle.refusal.specs.Refusal.{number}
use Rattle.telnet.specs.Event.{Event, run, command, negotiation, subnegotiation, iac, eor}
use Rattle.telnet.specs.Write.{doubled, written, written_all, writable}
use Rattle.telnet.specs.Read.{Front, no_event, found, refused, event_of}
use Rattle.telnet.specs.Whole.{Ending, well, refusal, Reading, reads, before, reading}
use Rattle.telnet.specs.Record.{is_end_of_record, data_of, record_of, complete}

-- a test of every event
unfoldable pub all : (Event → Bool) → List Event → Bool
all f [] = true
all f (e ∷ es) = f e && all f es

unfoldable pub is_run : Event → Bool
is_run (run d) = true
is_run (command c) = false
is_run (negotiation v o) = false
is_run (subnegotiation o p) = false

-- no two runs adjacent
unfoldable pub separate : List Event → Bool
separate [] = true
separate (e ∷ []) = true
separate (e ∷ f ∷ es) = not (is_run e && is_run f) && separate (f ∷ es)

-- Reading what was written gives the list, ended well.
abbrev pub ReadsBack : Type 0
ReadsBack = (es : List Event) → T (all writable es) → T (separate es) → reading (written_all es) ≡ reads es well

-- Writing what was read without refusal gives the bytes.
abbrev pub WritesBack : Type 0
WritesBack = (bs : List ℕ) → (reading bs).ending ≡ well → written_all (reading bs).events ≡ bs

-- What was read, refused in the end or not, is writable: no event of a reading of bytes is refused by the writer.
abbrev pub ReadIsWritable : Type 0
ReadIsWritable = (bs : List ℕ) → Bytes bs → T (all writable (reading bs).events)

-- what the reading is, given what is at the front of the bytes
unfoldable pub read_on : List ℕ → Front → Reading
read_on bs no_event = reads [] well
read_on bs (refused why) = reads [] (refusal why)
read_on bs (found e) = before (e ∷ []) (reading (drop (length (written e)) bs))

-- The whole reading, a step a byte, is the reading of one event after another.
abbrev pub Unrolled : Type 0
Unrolled = (bs : List ℕ) → reading bs ≡ read_on bs (event_of bs)

-- the data of all runs among the events
unfoldable pub all_data : List Event → List ℕ
all_data [] = []
all_data (e ∷ es) = data_of e ++ all_data es

-- A record is all data up to the next end-of-record, whatever commands come between, and reading goes on after it.
abbrev pub RecordIsAllData : Type 0
RecordIsAllData =
    (bs : List ℕ) (es fs : List Event) (how : Ending) → T (all (λ e. not (is_end_of_record e)) es) → reading bs ≡ reads (es ++ command eor ∷ fs) how
    → (record_of bs ≡ complete (all_data es) (length (written_all es) + 2)) × (reading (drop (length (written_all es) + 2) bs) ≡ reads fs how)

-- Data written as a run and an end-of-record are read back as that record, whatever bytes they hold.
abbrev pub RecordReadsBack : Type 0
RecordReadsBack = (d bs : List ℕ) → record_of (doubled d ++ iac ∷ eor ∷ bs) ≡ complete d (length (doubled d) + 2)

-- "the first met from left to right": a fault stays whatever comes after it in the bytes. 1 is no such fault: it is
-- told where the bytes end.
pub record FaultStays (bs more : List ℕ) (why : Refusal) : Type 0 where
  -- of one event
  pub event : event_of bs ≡ refused why → event_of (bs ++ more) ≡ refused why
  -- and of a stream, with all that was read before it
  pub stream : (reading bs).ending ≡ refusal why → reading (bs ++ more) ≡ reading bs

abbrev pub FirstFaultDecides : Type 0
FirstFaultDecides = (bs more : List ℕ) (why : Refusal) → (number why ≡ 1 → ⊥) → FaultStays bs more why
