-- The turns of both ends: what the private functions of this crate answer. No public promise rests on these
-- definitions; `proofs/` has them computed.
use Rattle.std.specs.Prelude.{ℕ, suc, zero, ◌*◌, Bool, true, false, ◌&&◌, List, eqb, if◌then◌else◌, None}
use Rattle.octets.specs.Lent.{Outcome, outcome}
use Rattle.option_rules.specs.declared.Command.TheVariants.{On as on}
use Rattle.option_rules.specs.declared.Side.{Side}
use Rattle.option_rules.specs.declared.Side.TheVariants.{Off, On, WantOff, WantOffThenOn, WantOn, WantOnThenOff}
use Rattle.option_rules.specs.Table.{binary, terminal_type, end_of_record, new_environ}
use Rattle.option_verbs.specs.declared.Whose.{Whose}
use Rattle.option_verbs.specs.declared.Whose.TheVariants.{Ours, Other}
use Rattle.option_sides.specs.declared.Sides.{Sides}
use Rattle.option_sides.specs.Session.{all_off, side_at}
use Rattle.option_line.specs.declared.Sent.{Sent}
use Rattle.option_line.specs.Line.{sent, requested_on, heard_on}

-- what the host asks for, one after the other
abbrev pub option_at : ℕ → ℕ
option_at i =
    if eqb i 0 then new_environ else
    if eqb i 1 then terminal_type else
    if eqb i 2 then end_of_record else
    if eqb i 3 then end_of_record else binary

abbrev pub whose_at : ℕ → Whose
whose_at i = if eqb i 3 then Ours else if eqb i 5 then Ours else Other

-- n turns of an end from turn i on: each goes on with the sides and the line of the one before
unfoldable pub turns : (ℕ → Sent → List ℕ → Outcome Sent) → ℕ → ℕ → Sent → List ℕ → Outcome Sent
turns turn zero i s line = outcome s line
turns turn (suc n) i s line = turns turn n (suc i) (turn i s line).answer (turn i s line).lent

abbrev pub asks : ℕ → Sent → List ℕ → Outcome Sent
asks i s line = requested_on s.sides (whose_at i) (option_at i) on line s.place

abbrev pub hears : (heard : List ℕ) → ℕ → Sent → (line : List ℕ) → Outcome Sent
hears heard i s line = heard_on s.sides heard (3 * i) true line s.place

abbrev pub asked_all : List ℕ → Outcome Sent
asked_all line = turns asks 6 0 (sent all_off None 0) line

abbrev pub heard_all : Sent → (heard line : List ℕ) → Outcome Sent
heard_all first heard line = turns (hears heard) 6 0 first line

abbrev pub is_on : Side → Bool
is_on On = true
is_on Off = false
is_on WantOff = false
is_on WantOffThenOn = false
is_on WantOn = false
is_on WantOnThenOff = false

-- n of what the host asks for, from i on, are on
unfoldable pub all_on : ℕ → ℕ → Sides → Bool
all_on zero i s = true
all_on (suc n) i s = is_on (side_at s (whose_at i) (option_at i)) && all_on n (suc i) s
