-- The numbers of each answer of the line's functions, by its cases.
use Rattle.std.specs.Prelude.{ℕ, List, Option, None, Some, Result, Ok, Err}
use Rattle.export.specs.declared.KindNumbers.{KindNumbers}
use Rattle.export.specs.Numbers.{kind_numbers}
use Rattle.telnet.specs.declared.Kind.{Kind}
use Rattle.telnet.specs.Event.{event}
use Rattle.telnet_reader.specs.Promise.{Answer}
use Rattle.telnet_records.specs.Promise.{Answer as RecordAnswer}
use Rattle.telnet_writer.specs.Promise.{write_of}
use Rattle.export_telnet.specs.declared.TvEvent.{TvEvent}
use Rattle.export_telnet.specs.declared.TvRecord.{TvRecord}
use Rattle.refusal.specs.declared.Refusal.{Refusal}
use Rattle.refusal.specs.declared.Refusal.TheVariants.{NotWritable}
use Rattle.refusal.specs.Refusal.{number}
use Rattle.octets.specs.Lent.{Outcome, outcome}

abbrev pub found_event : KindNumbers → (n x : ℕ) → TvEvent
found_event k n x = record { what = k.what; refusal = 0; code = k.code; option = k.option; length = n; next = x }

-- no event: the input ended, where the refusal is 0
abbrev pub no_event : ℕ → TvEvent
no_event r = record { what = 0; refusal = r; code = 0; option = 0; length = 0; next = 0 }

abbrev pub event_numbers : Answer → TvEvent
event_numbers (Ok None) = no_event 0
event_numbers (Ok (Some f)) = found_event (kind_numbers f.kind) f.length f.next
event_numbers (Err why) = no_event (number why)

-- no record: none before the input ended, where the refusal is 0
abbrev pub no_record : ℕ → TvRecord
no_record r = record { complete = 0; refusal = r; length = 0; next = 0 }

abbrev pub record_numbers : RecordAnswer → TvRecord
record_numbers (Ok (Some r)) = record { complete = 1; refusal = 0; length = r.length; next = r.next }
record_numbers (Ok None) = no_record 0
record_numbers (Err why) = no_record (number why)

-- the event that numbers name, written; where they name none it is not writable
abbrev pub write_named : Option Kind → (payload out : List ℕ) → Outcome (Result ℕ Refusal)
write_named None payload out = outcome (Err NotWritable) out
write_named (Some k) payload out = write_of (event k payload) out
