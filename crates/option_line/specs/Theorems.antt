-- What is proved of a step with its command on the line, over the table of the option rules (specification, "Option
-- rules") and the bytes of the line: a command that is put on a line is heard there, and which number is told, exactly.
-- The proofs are in `proofs/Telling.antt` and `proofs/Hearing.antt`.
use Rattle.std.specs.Prelude.{◌≡◌, Bool, List, [], ◌∷◌, ◌↔◌, ◌⊎◌, ℕ, ◌+◌, ◌≤◌, ◌<◌, length, drop, Option, None, Some}
use Rattle.octets.specs.Lent.{Outcome, outcome, overwrite}
use Rattle.refusal.specs.declared.Refusal.{Refusal}
use Rattle.refusal.specs.RefusedBy.{number_or_0}
use Rattle.telnet.specs.declared.Verb.{Verb}
use Rattle.telnet.specs.Event.{run, command, negotiation, subnegotiation, iac, code}
use Rattle.telnet.specs.Read.{Front, no_event, found, refused, event_of}
use Rattle.option_rules.specs.declared.Command.{Command}
use Rattle.option_rules.specs.declared.Step.{Step}
use Rattle.option_rules.specs.Table.{rules_of, on_receive, on_request}
use Rattle.option_verbs.specs.declared.Whose.{Whose}
use Rattle.option_sides.specs.declared.Sides.{Sides}
use Rattle.option_verbs.specs.Verbs.{told_by, verb_for, facing}
use Rattle.option_sides.specs.Session.{side_at, with_side}
use Rattle.option_line.specs.declared.Sent.{Sent}
use Rattle.option_line.specs.Line.{sent, received_on, requested_on, heard_on}

-- what the table gives one side of a session: for a request of this end, and for a command of the other
abbrev pub by_request : Sides → Whose → (option : ℕ) → Command → Step
by_request s w o c = on_request (rules_of o) (side_at s w o) c

abbrev pub by_receipt : Sides → Whose → (option : ℕ) → Command → (accept : Bool) → Step
by_receipt s w o c accept = on_receive (rules_of o) (side_at s w o) accept c

-- a line with what a step of a side sends: IAC, the verb and the option at a place, or nothing; and the place after it
abbrev pub carrying : (line : List ℕ) (at : ℕ) → Whose → (option : ℕ) → Option Command → List ℕ
carrying line at w o None = line
carrying line at w o (Some c) = overwrite line at (iac ∷ code (verb_for w c) ∷ o ∷ [])

abbrev pub place_after : (at : ℕ) → Option Command → ℕ
place_after at None = at
place_after at (Some c) = at + 3

-- a step that is taken: the one side is stepped, what is refused or noted is the table's, and what the step sends is on the line
abbrev pub taken : Sides → Whose → (option : ℕ) → Step → (line : List ℕ) (at : ℕ) → Outcome Sent
taken s w o d line at = outcome (sent (with_side s w o d.side) d.refusal (place_after at d.sends)) (carrying line at w o d.sends)

-- Where a command that `request` put on a line is heard there by the other end, which accepts or declines, the facing
-- side of that end is stepped by the table, if its own line has room for a command.
abbrev pub RequestIsHeard : Type 0
RequestIsHeard =
    (asker hearer : Sides) (w : Whose) (o : ℕ) (c d : Command) (accept : Bool) (line : List ℕ) (at : ℕ) (own : List ℕ) (place : ℕ)
    → (by_request asker w o c).sends ≡ Some d → at + 3 ≤ length line → place + 3 ≤ length own
    → heard_on hearer (requested_on asker w o c line at).lent at accept own place
    ≡ taken hearer (facing w) o (by_receipt hearer (facing w) o d accept) own place

-- a command is to be sent at a place, and does not fit
abbrev pub Short : (line : List ℕ) (at : ℕ) → Option Command → Type 0
Short line at None = ⊥
Short line at (Some c) = length line < at + 3

-- the number that is told: a refusal, the note 14, or 0
abbrev pub number_of : Outcome Sent → ℕ
number_of r = number_or_0 r.answer.refusal

-- a refusal, which is neither 0 nor the note 14, leaves sides, line and place as they were
abbrev pub Kept : Sides → (line : List ℕ) (at : ℕ) → Outcome Sent → Type 0
Kept s line at r = (number_of r ≡ 0 → ⊥) → (number_of r ≡ 14 → ⊥) → r ≡ outcome (sent s r.answer.refusal at) line

-- what is told of a step of one side by the table, with its command at a place of a line
pub record Tells (s : Sides) (w : Whose) (o : ℕ) (d : Step) (line : List ℕ) (at : ℕ) (r : Outcome Sent) : Type 0 where
  -- 5 exactly where the place is past the end
  pub five : (number_of r ≡ 5) ↔ (length line < at)
  -- else 4 exactly where a command is to be sent and does not fit
  pub four : (number_of r ≡ 4) ↔ ((at ≤ length line) × Short line at d.sends)
  -- else the step is taken, with what the table says of it
  pub step : at ≤ length line → (Short line at d.sends → ⊥) → r ≡ taken s w o d line at
  pub kept : Kept s line at r

-- What `request` tells: 5, 4 or the table's number, exactly.
abbrev pub RequestTells : Type 0
RequestTells = (s : Sides) (w : Whose) (o : ℕ) (c : Command) (line : List ℕ) (at : ℕ) → Tells s w o (by_request s w o c) line at (requested_on s w o c line at)

-- What `receive` tells, likewise.
abbrev pub ReceiptTells : Type 0
ReceiptTells =
    (s : Sides) (v : Verb) (o : ℕ) (accept : Bool) (line : List ℕ) (at : ℕ)
    → let w = (told_by v).whose in Tells s w o (by_receipt s w o (told_by v).command accept) line at (received_on s v o accept line at)

-- data, a simple command, a subnegotiation, or the end
abbrev pub ConcernsNoOption : Front → Type 0
ConcernsNoOption no_event = Unit {0}
ConcernsNoOption (found (run d)) = Unit {0}
ConcernsNoOption (found (command c)) = Unit {0}
ConcernsNoOption (found (negotiation v o)) = ⊥
ConcernsNoOption (found (subnegotiation o p)) = Unit {0}
ConcernsNoOption (refused n) = ⊥

-- what is told of what is at a place of the other end's line
pub record TellsHeard (s : Sides) (heard : List ℕ) (from : ℕ) (accept : Bool) (line : List ℕ) (at : ℕ) (r : Outcome Sent) : Type 0 where
  -- 5 exactly where one of the two places is past its end
  pub five : (number_of r ≡ 5) ↔ ((length line < at) ⊎ (length heard < from))
  -- else the reader's refusal where it refuses
  pub reader : at ≤ length line → from ≤ length heard → (e : Refusal) → event_of (drop from heard) ≡ refused e → r.answer.refusal ≡ Some e
  -- else what is told of an option command
  pub command : at ≤ length line → from ≤ length heard → (v : Verb) (o : ℕ) → event_of (drop from heard) ≡ found (negotiation v o)
      → let w = (told_by v).whose in Tells s w o (by_receipt s w o (told_by v).command accept) line at r
  -- and any other event leaves everything and refuses nothing
  pub other : at ≤ length line → from ≤ length heard → ConcernsNoOption (event_of (drop from heard)) → r ≡ outcome (sent s None at) line
  pub kept : Kept s line at r

-- What `hear` tells, likewise, with the reader's number before the table's.
abbrev pub HearTells : Type 0
HearTells =
    (s : Sides) (heard : List ℕ) (from : ℕ) (accept : Bool) (line : List ℕ) (at : ℕ)
    → TellsHeard s heard from accept line at (heard_on s heard from accept line at)
