-- The ten sides of a session, two for each option that is carried (specification, "Option rules"). A call steps one of
-- them by its rules; an option that is not carried has no side here: its state is always off.
use Rattle.std.specs.Prelude.{◌≡◌, ℕ, Bool, not, T}
use Rattle.telnet.specs.declared.Verb.{Verb}
use Rattle.option_rules.specs.declared.Command.{Command}
use Rattle.option_rules.specs.declared.Side.{Side}
use Rattle.option_rules.specs.declared.Side.TheVariants.{Off}
use Rattle.option_rules.specs.declared.Step.{Step}
use Rattle.option_verbs.specs.declared.Whose.{Whose}
use Rattle.option_verbs.specs.declared.Whose.TheVariants.{Ours, Other}
use Rattle.option_sides.specs.declared.Pair.{Pair}
use Rattle.option_sides.specs.declared.Sides.{Sides}
use Rattle.option_sides.specs.declared.Answered.{Answered}
use Rattle.option_rules.specs.Table.{choose, carried, rules_of, on_receive, on_request}
use Rattle.option_verbs.specs.Verbs.{told_by, command_for}

abbrev pub pair : Side → Side → Pair
pair s t = record { ours = s; other = t }

abbrev pub both_off : Pair
both_off = pair Off Off

abbrev pub of_pair : Pair → Whose → Side
of_pair p Ours = p.ours
of_pair p Other = p.other

abbrev pub in_pair : Pair → Whose → Side → Pair
in_pair p Ours s = pair s p.other
in_pair p Other s = pair p.ours s

abbrev pub sides : Pair → Pair → Pair → Pair → Pair → Sides
sides b g t r e = record { binary = b; suppress_go_ahead = g; terminal = t; records = r; environ = e }

abbrev pub all_off : Sides
all_off = sides both_off both_off both_off both_off both_off

unfoldable pub pair_at : Sides → ℕ → Pair
pair_at s o = choose o s.binary s.suppress_go_ahead s.terminal s.records s.environ both_off

unfoldable pub with_pair : Sides → ℕ → Pair → Sides
with_pair s o p =
    choose o
    (sides p s.suppress_go_ahead s.terminal s.records s.environ)
    (sides s.binary p s.terminal s.records s.environ)
    (sides s.binary s.suppress_go_ahead p s.records s.environ)
    (sides s.binary s.suppress_go_ahead s.terminal p s.environ)
    (sides s.binary s.suppress_go_ahead s.terminal s.records p)
    s

-- the state of a side
abbrev pub side_at : Sides → Whose → ℕ → Side
side_at s w o = of_pair (pair_at s o) w

-- the sides with one of them set
abbrev pub with_side : Sides → Whose → ℕ → Side → Sides
with_side s w o x = with_pair s o (in_pair (pair_at s o) w x)

-- what a step of one side gives the session
abbrev pub answered_by : Sides → Whose → ℕ → Step → Answered
answered_by s w o d = record { sides = with_side s w o d.side; refusal = d.refusal; writes = command_for w o d.sends }

abbrev pub received : Sides → Verb → ℕ → Bool → Answered
received s v o accept = let w = (told_by v).whose in answered_by s w o (on_receive (rules_of o) (side_at s w o) accept (told_by v).command)

abbrev pub requested : Sides → Whose → ℕ → Command → Answered
requested s w o c = answered_by s w o (on_request (rules_of o) (side_at s w o) c)

-- Setting one side: it is so at that option and side, every other side is unchanged, and an option that is not carried
-- touches none.
pub record Sets (s : Sides) (w : Whose) (o : ℕ) (x : Side) : Type 0 where
  pub here : T (carried o) → side_at (with_side s w o x) w o ≡ x
  pub elsewhere : (v : Whose) (p : ℕ) → ((v ≡ w) × (p ≡ o) → ⊥) → side_at (with_side s w o x) v p ≡ side_at s v p
  pub untouched : T (not (carried o)) → with_side s w o x ≡ s

abbrev pub SetsOne : Type 0
SetsOne = (s : Sides) (w : Whose) (o : ℕ) (x : Side) → Sets s w o x
