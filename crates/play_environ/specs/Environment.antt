-- The environment of a printer session, asked for and told (RFC 1572, section 2; RFC 4777, section 5).
use Rattle.std.specs.Prelude.{ℕ, List, [], ◌∷◌, ◌++◌}
use Rattle.octets.specs.Ascii.{ascii}
use Rattle.telnet.specs.Event.{Event, subnegotiation}
use Rattle.option_rules.specs.Table.{new_environ}
use Rattle.env.specs.Variable.{IS, VAR, USERVAR, defined, Variable, variable}
use Rattle.env.specs.Write.{escaped, payload_of}
use Rattle.play.specs.Seed.{server_seed}

-- SEND (RFC 1572, section 2)
abbrev pub SEND : ℕ
SEND = 1

-- "IAC SB NEW-ENVIRON SEND USERVAR IBMRSEED xxxxxxxx VAR USERVAR IAC SE" (RFC 4777, section 12): the server's seed, and
-- a request for all variables of both kinds. The seed is part of the name, so an ESC goes before each of its bytes
-- that is a code (RFC 1572, section 2).
abbrev pub request : List ℕ
request = SEND ∷ USERVAR ∷ (ascii "IBMRSEED" ++ escaped server_seed ++ VAR ∷ USERVAR ∷ [])

abbrev pub asked : Event
asked = subnegotiation new_environ request

-- the user, the printer's own seed, the password substitute under both seeds, and the device
abbrev pub variables : List Variable
variables =
    variable VAR (ascii "USER") (defined (ascii "USER123"))
    ∷ variable USERVAR (ascii "IBMRSEED") (defined (0x08 ∷ 0xBE ∷ 0xF6 ∷ 0x62 ∷ 0xD8 ∷ 0x51 ∷ 0xF4 ∷ 0xB1 ∷ []))
    ∷ variable USERVAR (ascii "IBMSUBSPW") (defined (0xA3 ∷ 0x2E ∷ 0x34 ∷ 0xA4 ∷ 0x64 ∷ 0x28 ∷ 0x4A ∷ 0x94 ∷ []))
    ∷ variable USERVAR (ascii "DEVNAME") (defined (ascii "PCPRINTER"))
    ∷ []

abbrev pub environment : List ℕ
environment = payload_of IS variables

abbrev pub told : Event
told = subnegotiation new_environ environment
