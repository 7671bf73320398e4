-- What both ends send, computed: the host's requests, the printer's answers, and that the host then has all of it on
-- and says no more. Assumes nothing.
use mathlib.Core.Path.{◌≡◌, refl, ap, ap₂, ◌∙◌}
use mathlib.Core.Bool.{Bool, true}
use mathlib.Core.List.{List}
use Prim.Native.Nat.{ℕ}
use lib.ListN.{replicate}
use Rattle.std.specs.Prelude.{None}
use Rattle.octets.specs.Lent.{Outcome, outcome, overwrite}
use Rattle.telnet.specs.Event.{lead}
use Rattle.telnet.specs.Write.{written, written_all}
use Rattle.telnet.specs.Read.{data_run, event_of, run_or, after_iac, after_lead, after_verb}
use Rattle.telnet_reader.specs.Promise.{answered, look_at}
use Rattle.option_rules.specs.declared.Side.TheVariants.{On, Off, WantOn}
use Rattle.option_rules.specs.Table.{choose, carried, rules_of}
use Rattle.option_sides.specs.Session.{pair, both_off, sides, all_off, pair_at, with_pair}
use Rattle.option_line.specs.declared.Sent.{Sent}
use Rattle.option_line.specs.Line.{sent, sent_by, unless_past, received_on, requested_on, heard_on}
use Rattle.play_options.specs.declared.Commands.{Commands}
use Rattle.play_options.specs.Negotiated.{requests, answers as given, exchanged}
use Rattle.play_options.specs.Internal.Turns.{turns, asked_all, heard_all, all_on}

-- the host's side of each option that it asked for
abbrev pub asking : Sent
asking = sent (sides (pair WantOn WantOn) both_off (pair Off WantOn) (pair WantOn WantOn) (pair Off WantOn)) None 18

pub all_asked : asked_all (replicate 18 0) ≡ outcome asking (written_all requests)
unfolding turns requested_on unless_past sent_by choose carried rules_of pair_at with_pair written written_all overwrite
all_asked = refl

-- the printer's sides after its answers
abbrev pub answering : Sent
answering = sent (sides (pair On On) both_off (pair On Off) (pair On On) (pair On Off)) None 18

pub all-answered : heard_all (sent all_off None 0) (written_all requests) (replicate 18 0) ≡ outcome answering (written_all given)
unfolding turns heard_on look_at answered event_of run_or data_run after_iac lead after_lead after_verb received_on unless_past sent_by choose carried rules_of pair_at with_pair written written_all overwrite
all-answered = refl

-- the host hears them all and has nothing to answer
abbrev pub resting : Sent
resting = sent (sides (pair On On) both_off (pair Off On) (pair On On) (pair Off On)) None 18

pub all-heard : heard_all asking (written_all given) (written_all requests) ≡ outcome resting (written_all requests)
unfolding turns heard_on look_at answered event_of run_or data_run after_iac lead after_lead after_verb received_on unless_past sent_by choose carried rules_of pair_at with_pair written written_all overwrite
all-heard = refl

pub all_rest : all_on 6 0 resting.sides ≡ true
unfolding all_on choose pair_at
all_rest = refl

-- by what each call answers and leaves
pub exchanged-so : {first asked printer host : Sent} {down up left : List ℕ} {on : Bool} → outcome asked down ≡ asked_all (replicate 18 0) → first ≡ sent all_off None 0
    → outcome printer up ≡ heard_all first down (replicate 18 0) → outcome host left ≡ heard_all asked up down → on ≡ all_on 6 0 host.sides
    → ◌≡◌ {A = Commands} (record { down = left; up = up; rests = on }) exchanged
exchanged-so {down = d} {up = u} asks fresh answers hears on =
    let asked = asks ∙ all_asked in
    let sent-down : d ≡ written_all requests = ap (λ (o : Outcome Sent). o.lent) asked in
    let answered = answers ∙ ap₂ (λ s l. heard_all s l (replicate 18 0)) fresh sent-down ∙ all-answered in
    let sent-up : u ≡ written_all given = ap (λ (o : Outcome Sent). o.lent) answered in
    let heard = hears ∙ ap₂ (λ (o : Outcome Sent) l. heard_all o.answer l o.lent) asked sent-up ∙ all-heard in
    let rests = on ∙ ap (λ (o : Outcome Sent). all_on 6 0 o.answer.sides) heard ∙ all_rest in
    ap₂ (λ (o : Outcome Sent) (b : Bool). commands o.lent u b) heard rests ∙ ap (λ l. commands (written_all requests) l true) sent-up
  where
    commands : List ℕ → List ℕ → Bool → Commands
    commands l m b = record { down = l; up = m; rests = b }
