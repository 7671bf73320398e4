-- Records: all data between two end-of-record events (specification, "Framing"; RFC 885). "Record" is the
-- specification's own term.
use Rattle.std.specs.Prelude.{ℕ, ◌+◌, Bool, false, List, [], ◌∷◌, ◌++◌, eqb, length, if◌then◌else◌}
use Rattle.telnet.specs.Event.{Event, run, command, negotiation, subnegotiation, eor}
use Rattle.telnet.specs.Write.{written}
use Rattle.telnet.specs.Whole.{Ending, reading}

-- 255 239
unfoldable pub is_end_of_record : Event → Bool
is_end_of_record (run d) = false
is_end_of_record (command c) = eqb c eor
is_end_of_record (negotiation v o) = false
is_end_of_record (subnegotiation o p) = false

-- what an event adds to a record: only a run adds data
unfoldable pub data_of : Event → List ℕ
data_of (run d) = d
data_of (command c) = []
data_of (negotiation v o) = []
data_of (subnegotiation o p) = []

-- a record with its data and how many bytes of the line it took, or the ending that came before its end-of-record
pub data Gathered : Type 0 where
  complete : List ℕ → ℕ → Gathered
  no_record : Ending → Gathered

-- an event in front of a record
unfoldable pub with_event : Event → Gathered → Gathered
with_event e (complete d n) = complete (data_of e ++ d) (length (written e) + n)
with_event e (no_record how) = no_record how

-- the first record of a list of events that ended so
unfoldable pub gathered : List Event → Ending → Gathered
gathered [] how = no_record how
gathered (e ∷ es) how = if is_end_of_record e then complete [] (length (written e)) else with_event e (gathered es how)

-- the record at the front of the bytes
unfoldable pub record_of : List ℕ → Gathered
record_of bs = gathered (reading bs).events (reading bs).ending
