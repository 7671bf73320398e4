-- The events of a Telnet line as values that hold what they carry (specification, "Framing"; RFC 854, "TELNET COMMAND
-- STRUCTURE"; RFC 855; RFC 885). Numbers stand for bytes.
use Rattle.std.specs.Prelude.{ℕ, ◌||◌, List, [], eqb, ltb, if◌then◌else◌}
use Rattle.telnet.specs.declared.Verb.{Verb}
use Rattle.telnet.specs.declared.Verb.TheVariants.{Will, Wont, Do, Dont}
use Rattle.telnet.specs.declared.Lead.{Lead}
use Rattle.telnet.specs.declared.Lead.TheVariants.{Faulty, Opens, Negotiates, Simple}
use Rattle.telnet.specs.declared.Kind.{Kind}
use Rattle.telnet.specs.declared.Kind.TheVariants.{Data, Command, Negotiation, Subnegotiation}

-- IAC, "interpret as command", which is doubled where it is data
abbrev pub iac : ℕ
iac = 255

-- SB and SE, around a subnegotiation
abbrev pub sb : ℕ
sb = 250

abbrev pub se : ℕ
se = 240

-- EOR, end of record (RFC 885)
abbrev pub eor : ℕ
eor = 239

-- the code of each option command
abbrev pub code : Verb → ℕ
code Will = 251
code Wont = 252
code Do = 253
code Dont = 254

-- a data run, a simple command, an option command, a subnegotiation
pub data Event : Type 0 where
  run : List ℕ → Event
  command : ℕ → Event
  negotiation : Verb → ℕ → Event
  subnegotiation : ℕ → List ℕ → Event

-- what a byte after a 255 that is not doubled begins: refused is "a byte below 239, or 240"; 250 opens a
-- subnegotiation, 251 to 254 are the option commands, the others are simple commands
unfoldable pub lead : ℕ → Lead
lead c =
    if ltb c eor || eqb c se then Faulty else
    if eqb c sb then Opens else
    if eqb c 251 then Negotiates Will else
    if eqb c 252 then Negotiates Wont else
    if eqb c 253 then Negotiates Do else
    if eqb c 254 then Negotiates Dont else
    Simple

-- the longest payload of a subnegotiation, before doubling
abbrev pub payload_limit : ℕ
payload_limit = 1024

-- an event as the code has it: its kind, and apart from it the bytes that it carries
abbrev pub event : Kind → List ℕ → Event
event Data bs = run bs
event (Command c) bs = command c
event (Negotiation v o) bs = negotiation v o
event (Subnegotiation o) bs = subnegotiation o bs

abbrev pub kind : Event → Kind
kind (run bs) = Data
kind (command c) = Command c
kind (negotiation v o) = Negotiation v o
kind (subnegotiation o bs) = Subnegotiation o

abbrev pub carried_bytes : Event → List ℕ
carried_bytes (run bs) = bs
carried_bytes (command c) = []
carried_bytes (negotiation v o) = []
carried_bytes (subnegotiation o bs) = bs
