-- 5 first: it is told exactly where a place is past the end (`five-first`, the record `Orders.FiveFirst`).
-- Assumes nothing.
use Rattle.std.specs.Prelude.{Option, Result, Err, if◌then◌else◌}
use mathlib.Core.Path.{◌≡◌, refl, ap, subst}
use mathlib.Core.List.{List, ◌∷◌}
use mathlib.Core.Logic.{◌↔◌}
use Prim.Native.Nat.{ℕ, ◌<◌}
use lib.Dec.{T, ltb}
use lib.ListN.{length, drop}
use borrow.Author.Tests.{ltb-true, lt-ltb}
use Rattle.octets.specs.Lent.{Outcome}
use Rattle.octets.proofs.Choice.{choice}
use Rattle.refusal.specs.declared.Refusal.{Refusal}
use Rattle.refusal.specs.declared.Refusal.TheVariants.{PastTheEnd}
use Rattle.refusal.specs.RefusedBy.{RefusalNumber, refused_by, refusal_number}
use Rattle.telnet.specs.Read.{event_of}
use Rattle.telnet.specs.Record.{record_of}
use Rattle.telnet_reader.specs.Promise.{Answer, answered, look_at, delivered, read_at}
use Rattle.telnet_records.specs.declared.Record.{Record}
use Rattle.telnet_records.specs.Promise.{kept, record_at}
use Rattle.option_line.proofs.Telling.{request-tells-all, receipt-tells-all}
use Rattle.option_line.proofs.Hearing.{hear-tells}
use Rattle.claims.specs.Refusals.{one_of, Refuses}
use Rattle.claims.specs.Demand1.{line}
use Rattle.claims.specs.Orders.{FiveFirst}
use Rattle.claims.proofs.LineRefusals.{by-line, answered-by, delivered-by, record-by, kept_by}

-- a number that is not among some is none of them
pub apart : (ms : List ℕ) (k n : ℕ) → (T (one_of ms k) → ⊥) → T (one_of ms n) → n ≡ k → ⊥
apart ms k n away t e = away (subst (λ m. T (one_of ms m)) e t)

-- and no refusal by them is by it
never : (ms : List ℕ) (k : ℕ) {L : Type 0} (found left : L) (r : RefusalNumber) → (T (one_of ms k) → ⊥)
    → Refuses ms found left r → r ≡ refused_by k → ⊥
never ms k found left r away t e = away (subst (Refuses ms found left) e t).0

-- a test of the place that comes first
past_first : {A B : Type 0} (tell : A → B) (five : B) (s : List ℕ) (at : ℕ) (x y : A)
    → tell x ≡ five → (tell y ≡ five → ⊥)
    → (tell (if ltb (length s) at then x else y) ≡ five) ↔ (length s < at)
past_first tell five s at x y is not = (
  choice (λ a. tell a ≡ five → length s < at) (ltb (length s) at) (λ e _. ltb-true (length s) at e)
      (λ _ e. absurd (not e)),
  λ h. rw (lt-ltb (length s) at h) is,
)

pub five-first : FiveFirst
unfolding look_at read_at record_at one_of
five-first = record {
  look = λ s at.
      let f = event_of (drop at s) in
      let by = answered-by at f (by-line (drop at s)) in
      past_first (λ (a : Answer). a) (Err PastTheEnd) s at _ (answered at f) refl
      (λ e. never line 5 tt tt _ (λ x. x) by (ap refusal_number e));
  read = λ s at out.
      let f = event_of (drop at s) in
      let by = delivered-by at f out (by-line (drop at s)) in
      past_first (λ (o : Outcome Answer). o.answer) (Err PastTheEnd) s at _ (delivered at f out) refl
      (λ e. never (4 ∷ line) 5 out (delivered at f out).lent _ (λ x. x) by (ap refusal_number e));
  read_record = λ s at out.
      let g = record_of (drop at s) in
      let by = kept_by at g out (record-by (drop at s)) in
      past_first (λ (o : Outcome (Result (Option Record) Refusal)). o.answer) (Err PastTheEnd) s at _ (kept at g out) refl
      (λ e. never (4 ∷ line) 5 out (kept at g out).lent _ (λ x. x) by (ap refusal_number e));
  request = λ s w o c l at. (request-tells-all s w o c l at).five;
  receive = λ s v o accept l at. (receipt-tells-all s v o accept l at).five;
  hear = λ s heard from accept l at. (hear-tells s heard from accept l at).five;
}
