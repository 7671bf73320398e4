-- The line of one event (specification, the end of "Worked lines of the line"): its place and what it is, or how the
-- stream ended.
use Rattle.std.specs.Prelude.{ℕ, List, ◌++◌, eqb, if◌then◌else◌, Option, None, Some, Result, Ok, Err}
use Rattle.telnet.specs.declared.Verb.{Verb}
use Rattle.telnet.specs.declared.Verb.TheVariants.{Will, Wont, Do, Dont}
use Rattle.telnet.specs.declared.Kind.{Kind}
use Rattle.telnet.specs.declared.Kind.TheVariants.{Data, Command, Negotiation, Subnegotiation}
use Rattle.telnet_reader.specs.declared.Found.{Found}
use Rattle.telnet_reader.specs.Promise.{Answer}
use Rattle.refusal.specs.Refusal.{number}
use Rattle.telnet.specs.Event.{eor}
use Rattle.telnet.specs.Whole.{Ending, well, refusal}
use Rattle.octets.specs.Ascii.{ascii}
use Rattle.octets.specs.Decimal.{decimal}

-- a word and a number, with a blank between them
unfoldable pub said : List ℕ → ℕ → List ℕ
said word n = word ++ ascii " " ++ decimal n

-- an option command's name
abbrev pub verb_name : Verb → List ℕ
verb_name Will = ascii "WILL"
verb_name Wont = ascii "WONT"
verb_name Do = ascii "DO"
verb_name Dont = ascii "DONT"

-- EOR; CMD n
unfoldable pub command_text : ℕ → List ℕ
command_text c = if eqb c eor then ascii "EOR" else said (ascii "CMD") c

-- DATA length; a simple command; an option command's name and option; SUB option length: by the kind, and the length of
-- what is carried
unfoldable pub text : Kind → ℕ → List ℕ
text Data n = said (ascii "DATA") n
text (Command c) n = command_text c
text (Negotiation v o) n = said (verb_name v) o
text (Subnegotiation o) n = said (said (ascii "SUB") o) n

-- REFUSED n
abbrev pub refused_text : ℕ → List ℕ
refused_text n = said (ascii "REFUSED") n

-- END; REFUSED n
unfoldable pub ending_text : Ending → List ℕ
ending_text well = ascii "END"
ending_text (refusal why) = refused_text (number why)

-- what is at a place, with a refusal there told by its number, whatever refusals are
unfoldable pub answer_text_by : {E : Type 0} → (E → ℕ) → Result (Option Found) E → List ℕ
answer_text_by f (Ok None) = ending_text well
answer_text_by f (Ok (Some found)) = text found.kind found.length
answer_text_by f (Err why) = refused_text (f why)

-- what is at a place, as the reader answers it
abbrev pub answer_text : Answer → List ℕ
answer_text = answer_text_by number

-- a place, a blank, the text, a line end
unfoldable pub line : ℕ → List ℕ → List ℕ
line place words = decimal place ++ ascii " " ++ words ++ ascii "\n"
