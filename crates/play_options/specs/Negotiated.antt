-- What passes the lines of a printer session until its options rest on: the host asks, the printer answers, in the
-- order of RFC 4777, section 10's exchange between server and client. "Both the client and server must agree to support
-- at least the Transmit-Binary, End-Of-Record, and Terminal-Type Telnet options" (section 9); NEW-ENVIRON comes first
-- (section 3).
use Rattle.std.specs.Prelude.{◌≡◌, ℕ, Bool, true, ◌&&◌, List, [], ◌∷◌, leb, length, if◌then◌else◌}
use Rattle.octets.specs.Lent.{overwrite}
use Rattle.telnet.specs.declared.Verb.TheVariants.{Will, Do}
use Rattle.telnet.specs.Event.{Event, negotiation}
use Rattle.telnet.specs.Write.{written_all}
use Rattle.option_rules.specs.Table.{binary, terminal_type, end_of_record, new_environ}
use Rattle.play_options.specs.declared.Commands.{Commands}

abbrev pub requests : List Event
requests =
    negotiation Do new_environ ∷ negotiation Do terminal_type ∷ negotiation Do end_of_record ∷ negotiation Will end_of_record ∷ negotiation Do binary ∷ negotiation Will binary ∷ []

abbrev pub answers : List Event
answers =
    negotiation Will new_environ ∷ negotiation Will terminal_type ∷ negotiation Will end_of_record ∷ negotiation Do end_of_record ∷ negotiation Will binary ∷ negotiation Do binary ∷ []

-- six commands each way, and then all of the options rest on
abbrev pub exchanged : Commands
exchanged = record { down = written_all requests; up = written_all answers; rests = true }

-- six commands of three bytes each are at the front of both lines, where both have room for them
abbrev pub fit : (down up : List ℕ) → Bool
fit down up = leb 18 (length down) && leb 18 (length up)

pub record Negotiated (down up : List ℕ) (rests : Bool) (down' up' : List ℕ) : Type 0 where
  pub on : rests ≡ fit down up
  pub sent_down : down' ≡ (if fit down up then overwrite down 0 (written_all requests) else down)
  pub sent_up : up' ≡ (if fit down up then overwrite up 0 (written_all answers) else up)
