-- What the writer answers, and what it leaves in the buffer that it is lent: for every event and room, with the
-- refusals in the specification's order: 7 or 3, and 4 last.
use Rattle.std.specs.Prelude.{ℕ, not, List, if◌then◌else◌, Result, Err}
use Rattle.telnet.specs.Event.{Event, run, command, negotiation, subnegotiation}
use Rattle.telnet.specs.Write.{written, writable}
use Rattle.refusal.specs.declared.Refusal.{Refusal}
use Rattle.refusal.specs.declared.Refusal.TheVariants.{NotWritable, PayloadTooLong}
use Rattle.refusal.specs.Written.{written_into}
use Rattle.octets.specs.Lent.{Outcome, outcome}

-- why an event that is not writable is refused
unfoldable pub unwritable : Event → Refusal
unwritable (run d) = NotWritable
unwritable (command c) = NotWritable
unwritable (negotiation v o) = NotWritable
unwritable (subnegotiation o p) = PayloadTooLong

-- an event, written
unfoldable pub write_of : Event → List ℕ → Outcome (Result ℕ Refusal)
write_of e out =
    if not (writable e) then outcome (Err (unwritable e)) out else
    written_into (written e) out
