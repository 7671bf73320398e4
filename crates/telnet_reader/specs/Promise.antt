-- What each function of this crate answers, and what it leaves in the buffer that it is lent: for every input, place
-- and room, with the refusals in the specification's order (5 first; then those of the line, from left to right; 4
-- last).
use Rattle.std.specs.Prelude.{ℕ, ◌+◌, List, ltb, length, drop, if◌then◌else◌, Option, None, Some, Result, Ok, Err}
use Rattle.telnet_reader.specs.declared.Found.{Found}
use Rattle.telnet.specs.declared.Kind.{Kind}
use Rattle.telnet.specs.Event.{kind, carried_bytes}
use Rattle.telnet.specs.Write.{written}
use Rattle.telnet.specs.Read.{Front, no_event, found, refused, event_of}
use Rattle.refusal.specs.declared.Refusal.{Refusal}
use Rattle.refusal.specs.declared.Refusal.TheVariants.{NoRoom, PastTheEnd}
use Rattle.octets.specs.Lent.{Outcome, outcome}
use Rattle.octets.specs.Promise.{write_front}

-- an event, nothing more, or a refusal
abbrev pub Answer : Type 0
Answer = Result (Option Found) Refusal

-- an event with the number of bytes that it carries and the place after it
abbrev pub event_found : Kind → (n next : ℕ) → Answer
event_found k n next = Ok (Some (record { kind = k; length = n; next = next }))

-- what is at a place, as an answer: an event takes as many bytes as it is written with
unfoldable pub answered : ℕ → Front → Answer
answered at no_event = Ok None
answered at (found e) = event_found (kind e) (length (carried_bytes e)) (at + length (written e))
answered at (refused why) = Err why

-- the event at a place, looked at only
unfoldable pub look_at : List ℕ → ℕ → Answer
look_at s at = if ltb (length s) at then Err PastTheEnd else answered at (event_of (drop at s))

-- what is at a place, with the bytes that it carries put into the buffer
unfoldable pub delivered : ℕ → Front → List ℕ → Outcome Answer
delivered at no_event out = outcome (Ok None) out
delivered at (refused why) out = outcome (Err why) out
delivered at (found e) out = write_front (λ _. answered at (found e)) (Err NoRoom) (carried_bytes e) out

-- the event at a place, read
unfoldable pub read_at : (s : List ℕ) → ℕ → (out : List ℕ) → Outcome Answer
read_at s at out = if ltb (length s) at then outcome (Err PastTheEnd) out else delivered at (event_of (drop at s)) out
