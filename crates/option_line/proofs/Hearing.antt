-- What is told of what is at a place of the other end's line (`Theorems.HearTells`), and that a command which was
-- put on a line is heard there (`Theorems.RequestIsHeard`). Assumes nothing.
use mathlib.Core.Path.{◌≡◌, refl, ap, ◌∙◌, subst⁻¹}
use mathlib.Core.Bool.{Bool}
use mathlib.Core.List.{List, [], ◌∷◌, ◌++◌}
use mathlib.Core.Logic.{◌⊎◌, inl, inr, ⊎_elim}
use Prim.Native.Nat.{ℕ, ◌+◌, ◌≤◌, ◌<◌}
use native.Mathlib.Omega.{arith}
use lib.ListN.{length, take, drop}
use lib.Seq.{length-take-le, drop_at}
use borrow.Author.Tests.{le-ltb, lt-ltb}
use Rattle.octets.specs.Lent.{Outcome, outcome, overwrite}
use Rattle.octets.proofs.Order.{below-or-above}
use Rattle.octets.proofs.Overwrite.{length-overwrite}
use Rattle.telnet.specs.declared.Verb.{Verb}
use Rattle.telnet.specs.declared.Verb.TheVariants.{Will, Wont, Do, Dont}
use Rattle.telnet.specs.Event.{run, command, negotiation, subnegotiation, lead, iac, code}
use Rattle.telnet.specs.Read.{Front, no_event, found, refused, data_run, run_or, after_iac, after_lead, after_verb, event_of}
use Rattle.telnet.proofs.Refusals.{FrontBy, front_by}
use Rattle.telnet_reader.specs.Promise.{answered, look_at}
use Rattle.option_rules.specs.declared.Command.{Command}
use Rattle.std.specs.Prelude.{Option, None, Some}
use Rattle.refusal.specs.declared.Refusal.{Refusal}
use Rattle.refusal.specs.declared.Refusal.TheVariants.{PastTheEnd}
use Rattle.refusal.specs.Refusal.{number}
use Rattle.refusal.specs.RefusedBy.{number_or_0}
use Rattle.option_verbs.specs.declared.Told.{Told}
use Rattle.option_sides.specs.declared.Sides.{Sides}
use Rattle.option_verbs.specs.Verbs.{told_by, verb_for}
use Rattle.option_verbs.proofs.Heard.{heard-as-said}
use Rattle.option_line.specs.declared.Sent.{Sent}
use Rattle.option_line.specs.Line.{sent, heard_as, received_on, requested_on, heard_on}
use Rattle.option_line.specs.Theorems.{by_receipt, by_request, carrying, taken, Short, number_of, Kept, Tells, ConcernsNoOption, TellsHeard, HearTells, RequestIsHeard}
use Rattle.option_line.proofs.Places.{past, within}
use Rattle.option_line.proofs.Telling.{number_by, request-tells-all, receipt-tells-all}

module _ (s : Sides) (heard : List ℕ) (from : ℕ) (accept : Bool) (line : List ℕ) (at : ℕ) where
  abbrev r : Outcome Sent
  r = heard_on s heard from accept line at

  -- what is at the place, heard
  abbrev hearing : Front → Outcome Sent
  hearing f = heard_as s (answered from f) accept line at

  abbrev front : Front
  front = event_of (drop from heard)

  r-past : length line < at → r ≡ outcome (sent s (Some PastTheEnd) at) line
  unfolding heard_on
  r-past = past s line at (heard_as s (look_at heard from) accept line at)

  r-beyond : at ≤ length line → length heard < from → r ≡ outcome (sent s (Some PastTheEnd) at) line
  unfolding heard_on look_at
  r-beyond h g = within s line at (heard_as s (look_at heard from) accept line at) h ∙ rw (lt-ltb (length heard) from g)

  r-heard : at ≤ length line → from ≤ length heard → r ≡ hearing front
  unfolding heard_on look_at
  r-heard h g = within s line at (heard_as s (look_at heard from) accept line at) h ∙ rw (le-ltb (length heard) from g)

  not_five : at ≤ length line → (f : Front) → FrontBy (λ e. number e ≡ 5 → ⊥) f → number_of (hearing f) ≡ 5 → ⊥
  unfolding answered
  not_five h no_event t e = omega (arith, e)
  not_five h (found (run d)) t e = omega (arith, e)
  not_five h (found (command c)) t e = omega (arith, e)
  not_five h (found (negotiation v o)) t e = omega (arith, h, (receipt-tells-all s v o accept line at).five.0 e)
  not_five h (found (subnegotiation o p)) t e = omega (arith, e)
  not_five h (refused n) t e = t e

  front_kept : (f : Front) → Kept s line at (hearing f)
  unfolding answered
  front_kept no_event a b = refl
  front_kept (found (run d)) a b = refl
  front_kept (found (command c)) a b = refl
  front_kept (found (negotiation v o)) a b = (receipt-tells-all s v o accept line at).kept a b
  front_kept (found (subnegotiation o p)) a b = refl
  front_kept (refused n) a b = refl

  nothing-heard : (f : Front) → ConcernsNoOption f → hearing f ≡ outcome (sent s None at) line
  unfolding answered
  nothing-heard no_event t = refl
  nothing-heard (found (run d)) t = refl
  nothing-heard (found (command c)) t = refl
  nothing-heard (found (negotiation v o)) t = absurd t
  nothing-heard (found (subnegotiation o p)) t = refl
  nothing-heard (refused n) t = absurd t

  refused-heard : (e : Refusal) → (hearing (refused e)).answer.refusal ≡ Some e
  unfolding answered
  refused-heard e = refl

  command-heard : (v : Verb) (o : ℕ) → hearing (found (negotiation v o)) ≡ received_on s v o accept line at
  unfolding answered
  command-heard v o = refl

  -- the three ways
  by_way : (P : Outcome Sent → Type 0) → ((length line < at) ⊎ (length heard < from) → P (outcome (sent s (Some PastTheEnd) at) line))
      → (at ≤ length line → from ≤ length heard → P (hearing front)) → P r
  by_way P f g =
      ⊎_elim
      (λ h. subst⁻¹ P (r-past h) (f (inl h)))
      (λ h. ⊎_elim (λ k. subst⁻¹ P (r-beyond h k) (f (inr k))) (λ k. subst⁻¹ P (r-heard h k) (g h k)) (below-or-above (length heard) from))
      (below-or-above (length line) at)

  pub tells-heard : TellsHeard s heard from accept line at r
  tells-heard = record {
    five = (
      by_way (λ (u : Outcome Sent). number_of u ≡ 5 → (length line < at) ⊎ (length heard < from)) (λ h _. h)
          (λ h g e. absurd (not_five h front (front_by (λ e. number e ≡ 5 → ⊥) (λ e. omega (arith, e)) (λ e. omega (arith, e)) (λ e. omega (arith, e)) (λ e. omega (arith, e)) (drop from heard)) e)),
      λ p. ⊎_elim
          (λ h. ap number_of (r-past h))
          (λ k. ⊎_elim
          (λ h. ap number_of (r-past h))
          (λ h. ap number_of (r-beyond h k))
          (below-or-above (length line) at))
          p,
    );
    reader = λ h g n e. ap (λ (u : Outcome Sent). u.answer.refusal) (r-heard h g ∙ ap hearing e) ∙ refused-heard n;
    command = λ h g v o e.
        subst⁻¹ (λ (u : Outcome Sent). Tells s (told_by v).whose o (by_receipt s (told_by v).whose o (told_by v).command accept) line at u)
        (r-heard h g ∙ ap hearing e ∙ command-heard v o) (receipt-tells-all s v o accept line at);
    other = λ h g t. r-heard h g ∙ nothing-heard front t;
    kept = by_way (Kept s line at) (λ _ _ _. refl) (λ _ _. front_kept front);
  }

  -- what holds of 5, of 4, of 0, of the reader's number and of the table's holds of the number that is told
  module _ (P : ℕ → Type 0) (five : P 5) (four : P 4) (zero : P 0)
      (table : (v : Verb) (o : ℕ) → P (number_or_0 (by_receipt s (told_by v).whose o (told_by v).command accept).refusal)) where
    front-number : (f : Front) → FrontBy (λ e. P (number e)) f → P (number_of (hearing f))
    unfolding answered
    front-number no_event t = zero
    front-number (found (run d)) t = zero
    front-number (found (command c)) t = zero
    front-number (found (negotiation v o)) t =
        number_by P five four s (told_by v).whose o _ line at _ (receipt-tells-all s v o accept line at) (table v o)
    front-number (found (subnegotiation o p)) t = zero
    front-number (refused n) t = t

    pub heard-number : FrontBy (λ e. P (number e)) front → P (number_of r)
    heard-number t = by_way (λ (u : Outcome Sent). P (number_of u)) (λ _. five) (λ _ _. front-number front t)

pub hear-tells : HearTells
hear-tells = tells-heard

-- an option command at the front of bytes
command-front : (v : Verb) (o : ℕ) (rest : List ℕ) → event_of (iac ∷ code v ∷ o ∷ rest) ≡ found (negotiation v o)
unfolding event_of data_run run_or after_iac lead after_lead after_verb
command-front Will o rest = refl
command-front Wont o rest = refl
command-front Do o rest = refl
command-front Dont o rest = refl

-- what was put is at its place
put-stands : (l : List ℕ) (at : ℕ) (x : List ℕ) → at ≤ length l → drop at (overwrite l at x) ≡ x ++ drop (at + length x) l
unfolding overwrite
put-stands l at x h = drop_at (take at l) (x ++ drop (at + length x) l) at (length-take-le at l h)

never-short : (line : List ℕ) (at : ℕ) → at + 3 ≤ length line → (e : Option Command) → Short line at e → ⊥
never-short line at h None g = g
never-short line at h (Some c) g = omega (arith, h, g)

pub request-is-heard : RequestIsHeard
request-is-heard asker hearer w o c d accept line at own place sends fits room =
    let v = verb_for w d in
    let bytes = iac ∷ code v ∷ o ∷ [] in
    let put : (requested_on asker w o c line at).lent ≡ overwrite line at bytes =
    ap (λ (u : Outcome Sent). u.lent) ((request-tells-all asker w o c line at).step (omega (arith, fits)) (never-short line at fits (by_request asker w o c).sends))
    ∙ ap (carrying line at w o) sends in
    let stands : event_of (drop at (overwrite line at bytes)) ≡ found (negotiation v o) =
    ap event_of (put-stands line at bytes (omega (arith, fits))) ∙ command-front v o (drop (at + 3) line) in
    let told = (tells-heard hearer (overwrite line at bytes) at accept own place).command (omega (arith, room))
    (omega (arith, fits, length-overwrite line at bytes fits)) v o stands in
    let step = told.step (omega (arith, room)) (never-short own place room (by_receipt hearer (told_by v).whose o (told_by v).command accept).sends) in
    ap (λ (l : List ℕ). heard_on hearer l at accept own place) put
    ∙ (step ∙ ap (λ (t : Told). taken hearer t.whose o (by_receipt hearer t.whose o t.command accept) own place) (heard-as-said w d))
