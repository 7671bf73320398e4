-- Events at places of a line: what is read there and what is written there, with the place after it.
use Rattle.std.specs.Prelude.{List, [], ◌∷◌, ◌++◌, ℕ, ◌+◌, ltb, length, take, drop, if◌then◌else◌, None, Some, Result, Ok, Err}
use Rattle.octets.specs.Lent.{Outcome, outcome}
use Rattle.refusal.specs.declared.Refusal.{Refusal}
use Rattle.telnet.specs.Event.{Event, run, command, eor}
use Rattle.telnet_reader.specs.Promise.{Answer}
use Rattle.telnet_writer.specs.Promise.{write_of}

-- the place after what is at a place
abbrev pub next_place : ℕ → Answer → ℕ
next_place at (Ok None) = at
next_place at (Ok (Some found)) = found.next
next_place at (Err why) = at

-- the place after what was written
abbrev pub place_after : ℕ → Result ℕ Refusal → ℕ
place_after at (Ok n) = at + n
place_after at (Err why) = at

-- what the writer leaves, after what comes before the place
abbrev pub after_place : List ℕ → ℕ → Outcome (Result ℕ Refusal) → Outcome ℕ
after_place line at o = outcome (place_after at o.answer) (take at line ++ o.lent)

-- nothing is written at a place after the end
unfoldable pub sent_at : Event → List ℕ → ℕ → Outcome ℕ
sent_at e line at = if ltb (length line) at then outcome at line else after_place line at (write_of e (drop at line))

-- events one after the other
unfoldable pub sent_all : List Event → List ℕ → ℕ → Outcome ℕ
sent_all [] line at = outcome at line
sent_all (e ∷ es) line at = sent_all es (sent_at e line at).lent (sent_at e line at).answer

-- a record on the line: its bytes, and its end
abbrev pub record_events : List ℕ → List Event
record_events bytes = run bytes ∷ command eor ∷ []
