-- Option commands put on the line in the call that steps the sides, so that no step is taken whose command could not be
-- sent (the owner's demand 3: "Lines keep order and lose nothing"). Refusals in the specification's order: 5 first, 4
-- last.
use Rattle.std.specs.Prelude.{ℕ, ◌+◌, Bool, List, leb, ltb, length, if◌then◌else◌, Option, None, Some, Ok, Err}
use Rattle.octets.specs.Lent.{Outcome, outcome, overwrite}
use Rattle.refusal.specs.declared.Refusal.{Refusal}
use Rattle.refusal.specs.declared.Refusal.TheVariants.{NoRoom, PastTheEnd}
use Rattle.telnet.specs.declared.Verb.{Verb}
use Rattle.telnet.specs.declared.Kind.{Kind}
use Rattle.telnet.specs.declared.Kind.TheVariants.{Data, Command as Simple, Negotiation, Subnegotiation}
use Rattle.telnet.specs.Event.{negotiation}
use Rattle.telnet.specs.Write.{written}
use Rattle.telnet_reader.specs.Promise.{Answer, look_at}
use Rattle.option_rules.specs.declared.Command.{Command}
use Rattle.option_verbs.specs.declared.Whose.{Whose}
use Rattle.option_sides.specs.declared.Sides.{Sides}
use Rattle.option_sides.specs.declared.Answered.{Answered}
use Rattle.option_sides.specs.Session.{received, requested}
use Rattle.option_line.specs.declared.Sent.{Sent}

abbrev pub sent : Sides → Option Refusal → (place : ℕ) → Sent
sent s r p = record { sides = s; refusal = r; place = p }

-- how many bytes an option command has: IAC, WILL to DONT, the option
abbrev pub command_length : ℕ
command_length = 3

-- what the rules answered, carried out: a command goes on the line at a place; where it does not fit, sides and line
-- are as they were
unfoldable pub sent_by : Sides → Answered → (line : List ℕ) (at : ℕ) → Outcome Sent
sent_by s a line at =
    elim a.writes [
      | None ↦ outcome (sent a.sides a.refusal at) line
      | Some q ↦
          if leb (at + command_length) (length line)
          then outcome (sent a.sides a.refusal (at + command_length)) (overwrite line at (written (negotiation q.verb q.option)))
          else outcome (sent s (Some NoRoom) at) line
    ]

-- nothing is done at a place past the end of the line
unfoldable pub unless_past : Sides → (line : List ℕ) (at : ℕ) → Outcome Sent → Outcome Sent
unless_past s line at o = if ltb (length line) at then outcome (sent s (Some PastTheEnd) at) line else o

-- an option command from the other end, and the answer to it
unfoldable pub received_on : Sides → Verb → (option : ℕ) (accept : Bool) (line : List ℕ) (at : ℕ) → Outcome Sent
received_on s v o accept line at = unless_past s line at (sent_by s (received s v o accept) line at)

-- a request of this end, and its command
unfoldable pub requested_on : Sides → Whose → (option : ℕ) → Command → (line : List ℕ) (at : ℕ) → Outcome Sent
requested_on s w o c line at = unless_past s line at (sent_by s (requested s w o c) line at)

-- an event from the other end: an option command is answered, any other concerns no option
abbrev pub heard_event : Sides → Kind → (accept : Bool) (line : List ℕ) (at : ℕ) → Outcome Sent
heard_event s (Negotiation v o) accept line at = received_on s v o accept line at
heard_event s Data accept line at = outcome (sent s None at) line
heard_event s (Simple c) accept line at = outcome (sent s None at) line
heard_event s (Subnegotiation o) accept line at = outcome (sent s None at) line

abbrev pub heard_as : Sides → Answer → (accept : Bool) (line : List ℕ) (at : ℕ) → Outcome Sent
heard_as s (Ok None) accept line at = outcome (sent s None at) line
heard_as s (Ok (Some f)) accept line at = heard_event s f.kind accept line at
heard_as s (Err e) accept line at = outcome (sent s (Some e) at) line

-- what is at a place of the other end's line, heard: the reader's refusals are this one's, after 5 for the place of
-- this end's line
unfoldable pub heard_on : Sides → (heard : List ℕ) (from : ℕ) (accept : Bool) (line : List ℕ) (at : ℕ) → Outcome Sent
heard_on s heard from accept line at = unless_past s line at (heard_as s (look_at heard from) accept line at)
