-- The numbers of the sides of a session and of what a call of them answers, and the sides that numbers name.
use Rattle.std.specs.Prelude.{◌≡◌, ◌↔◌, ◌⊎◌, ℕ, ◌<◌, Bool, not, ◌||◌, List, eqb, ltb, length, if◌then◌else◌, Option, None, Some}
use Rattle.option_rules.specs.declared.Command.{Command}
use Rattle.option_rules.specs.declared.Command.TheVariants.{On as on, Off as off}
use Rattle.option_rules.specs.declared.Side.{Side}
use Rattle.option_rules.specs.declared.Side.TheVariants.{Off, On, WantOff, WantOffThenOn, WantOn, WantOnThenOff}
use Rattle.option_verbs.specs.declared.Whose.{Whose}
use Rattle.option_verbs.specs.declared.Whose.TheVariants.{Ours, Other}
use Rattle.option_verbs.specs.declared.Outgoing.{Outgoing}
use Rattle.option_sides.specs.declared.Pair.{Pair}
use Rattle.option_sides.specs.declared.Sides.{Sides}
use Rattle.option_sides.specs.declared.Answered.{Answered}
use Rattle.option_sides.specs.Session.{pair, sides, received}
use Rattle.option_line.specs.declared.Sent.{Sent}
use Rattle.option_line.specs.Line.{received_on}
use Rattle.telnet.specs.Event.{code}
use Rattle.export_option.specs.declared.TvPair.{TvPair}
use Rattle.export_option.specs.declared.TvSides.{TvSides}
use Rattle.export_option.specs.declared.TvAnswered.{TvAnswered}
use Rattle.export_option.specs.declared.TvSent.{TvSent}
use Rattle.telnet.specs.declared.Verb.{Verb}
use Rattle.export.specs.Numbers.{numbered}
use Rattle.refusal.specs.Refusal.{past_the_end, bad_command, off_answered_by_on}
use Rattle.refusal.specs.RefusedBy.{number_or_0}
use Rattle.octets.specs.Lent.{Outcome, outcome}

-- the number of a state: the rows of the specification's table, from 0 on
abbrev pub side_number : Side → ℕ
side_number Off = 0
side_number On = 1
side_number WantOff = 2
side_number WantOffThenOn = 3
side_number WantOn = 4
side_number WantOnThenOff = 5

-- the state that a number names; any other number is read as off
unfoldable pub side_named : ℕ → Side
side_named n =
    if eqb n 1 then On else
    if eqb n 2 then WantOff else
    if eqb n 3 then WantOffThenOn else
    if eqb n 4 then WantOn else
    if eqb n 5 then WantOnThenOff else
    Off

abbrev pub pair_numbers : Pair → TvPair
pair_numbers p = record { ours = side_number p.ours; other = side_number p.other }

abbrev pub pair_named : TvPair → Pair
pair_named p = pair (side_named p.ours) (side_named p.other)

abbrev pub sides_numbers : Sides → TvSides
sides_numbers s = record {
  binary = pair_numbers s.binary;
  suppress_go_ahead = pair_numbers s.suppress_go_ahead;
  terminal = pair_numbers s.terminal;
  records = pair_numbers s.records;
  environ = pair_numbers s.environ;
}

abbrev pub sides_named : TvSides → Sides
sides_named s =
    sides (pair_named s.binary) (pair_named s.suppress_go_ahead) (pair_named s.terminal) (pair_named s.records) (pair_named s.environ)

-- a number that refuses: neither 0 nor the note 14
unfoldable pub is_refusal : ℕ → Bool
is_refusal n = not (eqb n 0 || eqb n off_answered_by_on)

-- the sides that a call hands back: with a refusal those that it was given, by the numbers that it was given
unfoldable pub handed_back : (given : TvSides) (number : ℕ) → Sides → TvSides
handed_back given n s = if is_refusal n then given else sides_numbers s

-- the sides, a refusal, a note or 0, and nothing to write
abbrev pub silent : TvSides → (number : ℕ) → TvAnswered
silent s n = record { sides = s; number = n; writes = 0; code = 0; option = 0 }

-- the same with an option command to write
abbrev pub sending : TvSides → (number code option : ℕ) → TvAnswered
sending s n c o = record { sides = s; number = n; writes = 1; code = c; option = o }

abbrev pub answering : TvSides → (number : ℕ) → Option Outgoing → TvAnswered
answering s n None = silent s n
answering s n (Some q) = sending s n (code q.verb) q.option

abbrev pub answered_numbers : (given : TvSides) → Answered → TvAnswered
answered_numbers given a = let n = number_or_0 a.refusal in answering (handed_back given n a.sides) n a.writes

-- a receipt, by the option command that a number names: where it names none, the sides come back as they were given
abbrev pub receive_named : TvSides → Option Verb → (option : ℕ) (accept : Bool) → TvAnswered
receive_named s None o accept = silent s bad_command
receive_named s (Some v) o accept = answered_numbers s (received (sides_named s) v o accept)

-- a step with its command on the line
abbrev pub sent_to : TvSides → (number place : ℕ) → TvSent
sent_to s n p = record { sides = s; number = n; place = p }

abbrev pub sent_numbers : (given : TvSides) → Sent → TvSent
sent_numbers given s = let n = number_or_0 s.refusal in sent_to (handed_back given n s.sides) n s.place

-- a receipt with its answer on the line: where a number names no option command it is refused by 6, after 5
unfoldable pub receive_on_named : TvSides → Option Verb → (option : ℕ) (accept : Bool) (line : List ℕ) (at : ℕ) → Outcome TvSent
receive_on_named s None o accept line at = outcome (sent_to s (if ltb (length line) at then past_the_end else bad_command) at) line
receive_on_named s (Some v) o accept line at = numbered (sent_numbers s) (received_on (sides_named s) v o accept line at)

-- whose side, by whether it is ours
abbrev pub whose_named : Bool → Whose
whose_named t = if t then Ours else Other

abbrev pub command_named : Bool → Command
command_named t = if t then on else off

-- Which state a number names: each its own number alone, and every other reads as off; and the numbers of the sides
-- name them.
pub record SidesNamed : Type 0 where
  pub back : (s : Sides) → sides_named (sides_numbers s) ≡ s
  pub on : (n : ℕ) → (side_named n ≡ On) ↔ (n ≡ 1)
  pub want_off : (n : ℕ) → (side_named n ≡ WantOff) ↔ (n ≡ 2)
  pub want_off_then_on : (n : ℕ) → (side_named n ≡ WantOffThenOn) ↔ (n ≡ 3)
  pub want_on : (n : ℕ) → (side_named n ≡ WantOn) ↔ (n ≡ 4)
  pub want_on_then_off : (n : ℕ) → (side_named n ≡ WantOnThenOff) ↔ (n ≡ 5)
  pub off : (n : ℕ) → (n ≡ 0) ⊎ (5 < n) → side_named n ≡ Off
