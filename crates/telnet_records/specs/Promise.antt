-- What `read_record` answers, and what it leaves in the buffer that it is lent: for every input, place and room, with
-- the refusals in the specification's order (5 first; then those of the line, from left to right; 4 last).
use Rattle.std.specs.Prelude.{ℕ, ◌+◌, List, ltb, length, drop, if◌then◌else◌, Option, None, Some, Result, Ok, Err}
use Rattle.telnet_records.specs.declared.Record.{Record}
use Rattle.telnet.specs.Whole.{Ending, well, refusal}
use Rattle.telnet.specs.Record.{Gathered, complete, no_record, record_of}
use Rattle.refusal.specs.declared.Refusal.{Refusal}
use Rattle.refusal.specs.declared.Refusal.TheVariants.{NoRoom, PastTheEnd}
use Rattle.octets.specs.Lent.{Outcome, outcome}
use Rattle.octets.specs.Promise.{write_front}

-- a record, none before the input ended, or a refusal
abbrev pub Answer : Type 0
Answer = Result (Option Record) Refusal

-- a record with the number of its bytes and the place after it
abbrev pub record_found : (n next : ℕ) → Answer
record_found n next = Ok (Some (record { length = n; next = next }))

-- no record: the input ended first, or was refused
unfoldable pub answer_no_record : Ending → Answer
answer_no_record well = Ok None
answer_no_record (refusal why) = Err why

-- a record that was found from a place on, with its data put into the buffer
unfoldable pub kept : ℕ → Gathered → List ℕ → Outcome Answer
kept at (no_record how) out = outcome (answer_no_record how) out
kept at (complete d n) out = write_front (λ length. record_found length (at + n)) (Err NoRoom) d out

-- the record from a place on, read
unfoldable pub record_at : (s : List ℕ) → ℕ → (out : List ℕ) → Outcome Answer
record_at s at out = if ltb (length s) at then outcome (Err PastTheEnd) out else kept at (record_of (drop at s)) out
