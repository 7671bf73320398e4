-- The gathering of a record, event by event and in the terms of places: what the private functions of this crate
-- answer. No public promise rests on these definitions; `proofs/Gathering.antt` has the laws that join them to
-- `specs/Record.antt` of the crate `telnet`.
use Rattle.std.specs.Prelude.{◌≡◌, ℕ, ◌+◌, ◌≤◌, ◌<◌, Bool, false, List, [], eqb, length, drop}
use Rattle.telnet.specs.declared.Kind.{Kind}
use Rattle.telnet.specs.declared.Kind.TheVariants.{Data, Command, Negotiation, Subnegotiation}
use Rattle.telnet_data.specs.declared.Extent.{Extent}
use Rattle.telnet.specs.Event.{eor}
use Rattle.telnet.specs.Read.{data_run}
use Rattle.telnet.specs.Record.{Gathered, complete, no_record, record_of}
use Rattle.telnet_records.specs.Promise.{Answer, record_found, answer_no_record}
use Rattle.octets.specs.Lent.{overwrite}

-- how many bytes an event adds to a record, by its kind and how many it carries
abbrev pub data_length : Kind → ℕ → ℕ
data_length Data n = n
data_length (Command c) n = 0
data_length (Negotiation v o) n = 0
data_length (Subnegotiation o) n = 0

-- whether an event ends a record, by its kind
abbrev pub ends_record : Kind → Bool
ends_record Data = false
ends_record (Command c) = eqb c eor
ends_record (Negotiation v o) = false
ends_record (Subnegotiation o) = false

-- a record that begins at place i, after n bytes of data
unfoldable pub sized : (n i : ℕ) → Gathered → Answer
sized n i (complete d w) = record_found (n + length d) (i + w)
sized n i (no_record how) = answer_no_record how

-- the record from place i on, after n bytes of data
unfoldable pub sized_at : List ℕ → (n i : ℕ) → Answer
sized_at s n i = sized n i (record_of (drop i s))

-- the data of the record at the front, none where it is lacking
unfoldable pub record_data : Gathered → List ℕ
record_data (complete d w) = d
record_data (no_record how) = []

-- the data of the record from place i on
unfoldable pub data_at : List ℕ → ℕ → List ℕ
data_at s i = record_data (record_of (drop i s))

-- data of the record are left at place i, and there is room for them after `to` bytes
pub record CanCopy (s : List ℕ) (i : ℕ) (out : List ℕ) (to : ℕ) : Type 0 where
  pub within : i ≤ length s
  pub some : 0 < length (data_at s i)
  pub room : to + length (data_at s i) ≤ length out

-- one event's data copied: with what is left after it, the buffer comes to the same
pub record Copied (s : List ℕ) (i : ℕ) (out : List ℕ) (to : ℕ) (out' : List ℕ) (r : Extent) : Type 0 where
  pub ahead : i < r.end
  pub within : r.end ≤ length s
  pub whole : r.count + length (data_at s r.end) ≡ to + length (data_at s i)
  pub same : overwrite out' r.count (data_at s r.end) ≡ overwrite out to (data_at s i)

-- data of the record are left at place i, and the event there adds none
pub record CanPass (s : List ℕ) (i : ℕ) : Type 0 where
  pub within : i ≤ length s
  pub some : 0 < length (data_at s i)
  pub none : data_run (drop i s) ≡ []

-- that event passed: after it the same data are left
pub record Passed (s : List ℕ) (i j : ℕ) : Type 0 where
  pub ahead : i < j
  pub within : j ≤ length s
  pub same : data_at s j ≡ data_at s i
