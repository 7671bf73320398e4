-- The order sent, by what the sending of each part answers and leaves; and what a completion sends. Assumes nothing.
use Rattle.std.specs.Prelude.{is_err}
use mathlib.Core.Path.{◌≡◌, refl, ap, ap₂, ◌∙◌}
use mathlib.Core.Bool.{Bool, true, false}
use mathlib.Core.List.{List, []}
use Prim.Native.Nat.{ℕ}
use lib.ListN.{replicate}
use Rattle.octets.specs.Lent.{Outcome, outcome, overwrite}
use Rattle.octets.specs.Promise.{write_front}
use Rattle.telnet.specs.declared.Verb.TheVariants.{Do}
use Rattle.telnet.specs.Event.{negotiation}
use Rattle.print_ledger.specs.declared.Ledger.{Ledger}
use Rattle.print_ledger.specs.declared.Completed.{Completed}
use Rattle.print_ledger.specs.Ledger.{complete_into}
use Rattle.show_event.specs.Sent.{sent_at, sent_all, record_events}
use Rattle.play_order.specs.Order.{timing_mark, first_run, second_run, ordered, completed}

pub order-sent : (line : List ℕ) (at : ℕ) {r s t : ℕ} {l m n : List ℕ} → outcome r l ≡ sent_at first_run line at
    → outcome s m ≡ sent_at (negotiation Do timing_mark) l r → outcome t n ≡ sent_all (record_events second_run) m s → outcome r n ≡ ordered line at
unfolding ordered sent_all
order-sent line at first between second =
    let all = second ∙ ap (λ (o : Outcome ℕ). sent_all (record_events second_run) o.lent o.answer) (between ∙ ap (λ (o : Outcome ℕ). sent_at (negotiation Do timing_mark) o.lent o.answer) first) in
    ap₂ outcome (ap (λ (o : Outcome ℕ). o.answer) first) (ap (λ (o : Outcome ℕ). o.lent) all)

-- a ledger by whether a record is held
abbrev marked : Bool → Ledger
marked h = record { held = h }

-- a completion that wrote the record had one held, and one that was refused had none: ten bytes are room enough
module _ {r : Completed} {bytes : List ℕ} where
  held-written : (t : Bool) → outcome r bytes ≡ complete_into (marked t) (replicate 10 0) → is_err r.completion ≡ false
      → record_events bytes ≡ completed (marked t)
  unfolding complete_into write_front overwrite
  held-written false e h = let k = ap (λ (o : Outcome Completed). is_err o.answer.completion) e in cc
  held-written true e h = ap (λ (o : Outcome Completed). record_events o.lent) e

  none_written : (t : Bool) → outcome r bytes ≡ complete_into (marked t) (replicate 10 0) → is_err r.completion ≡ true
      → [] ≡ completed (marked t)
  unfolding complete_into write_front
  none_written false e h = refl
  none_written true e h = let k = ap (λ (o : Outcome Completed). is_err o.answer.completion) e in cc

  pub held-completed : (l : Ledger) → outcome r bytes ≡ complete_into l (replicate 10 0) → is_err r.completion ≡ false → record_events bytes ≡ completed l
  held-completed l = held-written l.held

  pub none-completed : (l : Ledger) → outcome r bytes ≡ complete_into l (replicate 10 0) → is_err r.completion ≡ true → [] ≡ completed l
  none-completed l = none_written l.held
