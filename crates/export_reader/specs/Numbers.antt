-- The numbers of a reader that takes a stream by fragments and of what a call of it answers, and the reader that numbers
-- name.
use Rattle.std.specs.Prelude.{◌≡◌, ◌↔◌, ℕ, ◌<◌, Bool, List, eqb, if◌then◌else◌, Option, None, Some, Result, Ok, Err}
use Rattle.refusal.specs.declared.Refusal.{Refusal}
use Rattle.refusal.specs.Refusal.{number}
use Rattle.refusal.specs.RefusedBy.{number_or_0}
use Rattle.telnet.specs.declared.Verb.{Verb}
use Rattle.telnet.specs.declared.Kind.{Kind}
use Rattle.telnet.specs.Event.{code}
use Rattle.telnet_fragments.specs.declared.Fault.{Fault}
use Rattle.telnet_fragments.specs.declared.Fault.TheVariants.{Undoubled, TooLong, BadCommand}
use Rattle.telnet_fragments.specs.declared.Stage.{Stage}
use Rattle.telnet_fragments.specs.declared.Stage.TheVariants.{Data, IacSeen, Choosing, Opening, Payload, Closing, Failed}
use Rattle.telnet_fragments.specs.declared.Reader.{Reader}
use Rattle.telnet_fragments.specs.declared.Taken.{Taken}
use Rattle.telnet_fragments.specs.Promise.{fault_number, mode_of, is_idle, Fed, ClosedAs}
use Rattle.export.specs.declared.KindNumbers.{KindNumbers}
use Rattle.export.specs.Numbers.{three, kind_numbers, verb_named, NoCode}
use Rattle.export_reader.specs.declared.TvReader.{TvReader}
use Rattle.export_reader.specs.declared.TvFed.{TvFed}

abbrev pub reader : (stage code count : ℕ) → TvReader
reader s c n = record { stage = s; code = c; count = n }

-- the numbers of a reader
abbrev pub stage_numbers : Stage → (count : ℕ) → TvReader
stage_numbers Data n = reader 0 0 n
stage_numbers IacSeen n = reader 1 0 n
stage_numbers (Choosing v) n = reader 2 (code v) n
stage_numbers Opening n = reader 3 0 n
stage_numbers (Payload o) n = reader 4 o n
stage_numbers (Closing o) n = reader 5 o n
stage_numbers (Failed f) n = reader 6 (fault_number f) n

abbrev pub reader_numbers : Reader → TvReader
reader_numbers r = stage_numbers r.stage r.count

-- the stage that two numbers name; any others are read as data
abbrev pub choosing_named : Option Verb → Stage
choosing_named None = Data
choosing_named (Some v) = Choosing v

unfoldable pub fault_named : ℕ → Stage
fault_named c =
    if eqb c 2 then Failed Undoubled else
    if eqb c 3 then Failed TooLong else
    if eqb c 6 then Failed BadCommand else
    Data

unfoldable pub stage_named : (stage code : ℕ) → Stage
stage_named s c =
    if eqb s 1 then IacSeen else
    if eqb s 2 then choosing_named (verb_named c) else
    if eqb s 3 then Opening else
    if eqb s 4 then Payload c else
    if eqb s 5 then Closing c else
    if eqb s 6 then fault_named c else
    Data

abbrev pub reader_named : TvReader → Reader
reader_named r = record { stage = stage_named r.stage r.code; count = r.count }

-- the numbers of the event that a call ended at; all 0 where there is none
abbrev pub event_numbers : Option Kind → KindNumbers
event_numbers None = three 0 0 0
event_numbers (Some k) = kind_numbers k

-- the numbers of an answer, with the reader's
abbrev pub fed_numbers : TvReader → Taken → TvFed
fed_numbers r t = record {
  reader = r;
  number = number_or_0 t.refusal;
  what = (event_numbers t.kind).what;
  code = (event_numbers t.kind).code;
  option = (event_numbers t.kind).option;
  taken = t.taken;
  length = t.length;
  payload = t.payload;
}

-- the reader that a call hands back: an idle one the numbers that were given
abbrev pub handed_back : (idle : Bool) → (given : TvReader) → Reader → TvReader
handed_back idle given r = if idle then given else reader_numbers r

-- A call by numbers: what `feed` answers and leaves with the reader that they name.
abbrev pub FedByNumbers : TvReader → (kept fragment room : List ℕ) → TvFed → (keeps left : List ℕ) → Type 0
FedByNumbers given kept bs room r keeps left =
    (t : Taken) × Fed (reader_named given) kept bs room t keeps left
    × (r ≡ fed_numbers (handed_back (is_idle (mode_of (reader_named given) kept) room) given t.reader) t)

-- 0 for the end
abbrev pub closed_number : Result (Unit {0}) Refusal → ℕ
closed_number (Ok u) = 0
closed_number (Err e) = number e

-- Closing by numbers.
abbrev pub ClosedByNumber : TvReader → ℕ → Type 0
ClosedByNumber given n = (c : Result (Unit {0}) Refusal) × ClosedAs (reader_named given) c × (n ≡ closed_number c)

-- Which reader numbers name: the numbers of a reader name it; a code that a stage does not have is not looked at; a
-- fault is named by stage 6 with its number, and not otherwise; and all other numbers are read as data.
pub record ReadersNamed : Type 0 where
  pub back : (r : Reader) → reader_named (reader_numbers r) ≡ r
  pub plain : (c : ℕ) → (stage_named 0 c ≡ Data) × (stage_named 1 c ≡ IacSeen) × (stage_named 3 c ≡ Opening)
  pub faults : (s c : ℕ) (f : Fault) → (stage_named s c ≡ Failed f) ↔ ((s ≡ 6) × (c ≡ fault_number f))
  pub no_stage : (s c : ℕ) → 6 < s → stage_named s c ≡ Data
  pub no_verb : (c : ℕ) → NoCode c → stage_named 2 c ≡ Data
  pub no_fault : (c : ℕ) → ((f : Fault) → c ≡ fault_number f → ⊥) → stage_named 6 c ≡ Data
