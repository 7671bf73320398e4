-- The numbers by which the kinds of events and the answers of writers cross to a caller in C.
use Rattle.std.specs.Prelude.{◌≡◌, ◌↔◌, ◌⊎◌, ℕ, ◌<◌, Bool, Option, None, Some, Result, Ok, Err, eqb, if◌then◌else◌}
use Rattle.refusal.specs.declared.Refusal.{Refusal}
use Rattle.refusal.specs.Refusal.{number}
use Rattle.telnet.specs.declared.Verb.{Verb}
use Rattle.telnet.specs.declared.Verb.TheVariants.{Will, Wont, Do, Dont}
use Rattle.telnet.specs.declared.Kind.{Kind}
use Rattle.telnet.specs.declared.Kind.TheVariants.{Data, Command, Negotiation, Subnegotiation}
use Rattle.telnet.specs.Event.{code}
use Rattle.export.specs.declared.KindNumbers.{KindNumbers}
use Rattle.export.specs.declared.TvWritten.{TvWritten}
use Rattle.octets.specs.Lent.{Outcome, outcome}

-- an outcome with its answer as numbers; what is lent is left as it is
abbrev pub numbered : {A B : Type 0} → (A → B) → Outcome A → Outcome B
numbered f o = outcome (f o.answer) o.lent

-- a yes or no
abbrev pub mark : Bool → ℕ
mark t = if t then 1 else 0

-- how many bytes were written, or a refusal
abbrev pub wrote : ℕ → TvWritten
wrote n = record { refusal = 0; length = n }

abbrev pub not_written : ℕ → TvWritten
not_written r = record { refusal = r; length = 0 }

-- the numbers of a writer's answer, with a refusal told by its number, whatever refusals are
abbrev pub written_numbers_by : {E : Type 0} → (E → ℕ) → Result ℕ E → TvWritten
written_numbers_by f (Ok n) = wrote n
written_numbers_by f (Err e) = not_written (f e)

-- the numbers of a writer's answer
abbrev pub written_numbers : Result ℕ Refusal → TvWritten
written_numbers = written_numbers_by number

abbrev pub three : (w c o : ℕ) → KindNumbers
three w c o = record { what = w; code = c; option = o }

-- the numbers of a kind
abbrev pub kind_numbers : Kind → KindNumbers
kind_numbers Data = three 1 0 0
kind_numbers (Command c) = three 2 c 0
kind_numbers (Negotiation v o) = three 3 (code v) o
kind_numbers (Subnegotiation o) = three 4 0 o

-- the option command that a number names, if it names one
unfoldable pub verb_named : ℕ → Option Verb
verb_named c =
    if eqb c 251 then Some Will else
    if eqb c 252 then Some Wont else
    if eqb c 253 then Some Do else
    if eqb c 254 then Some Dont else
    None

abbrev pub negotiation_named : Option Verb → ℕ → Option Kind
negotiation_named None o = None
negotiation_named (Some v) o = Some (Negotiation v o)

-- the kind that three numbers name, if they name one
unfoldable pub kind_named : (w c o : ℕ) → Option Kind
kind_named w c o =
    if eqb w 1 then Some Data else
    if eqb w 2 then Some (Command c) else
    if eqb w 3 then negotiation_named (verb_named c) o else
    if eqb w 4 then Some (Subnegotiation o) else
    None

-- a number that is none of 251 to 254
abbrev pub NoCode : ℕ → Type 0
NoCode c = (c < 251) ⊎ (254 < c)

-- Which kind numbers name: the numbers of a kind name it, and what is none of 1 to 4, or 3 with a code that is no
-- option command, names nothing.
pub record KindsNamed : Type 0 where
  pub back : (k : Kind) → kind_named (kind_numbers k).what (kind_numbers k).code (kind_numbers k).option ≡ Some k
  pub no_verb : (c : ℕ) → (verb_named c ≡ None) ↔ NoCode c
  pub no_kind : (w c o : ℕ) → (kind_named w c o ≡ None) ↔ (((w < 1) ⊎ (4 < w)) ⊎ ((w ≡ 3) × NoCode c))
