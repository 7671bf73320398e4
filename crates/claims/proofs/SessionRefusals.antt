-- The ten sides of a session: a receipt refuses nothing, and a refused request leaves all ten as they were; with the
-- command put on the line, every refusal leaves sides, line and place as they were. Assumes nothing.
use mathlib.Core.Path.{◌≡◌, refl, ap, subst, subst⁻¹, ◌∙◌}
use mathlib.Core.Bool.{Bool, true, false}
use mathlib.Core.List.{List, [], ◌∷◌}
use Prim.Native.Nat.{ℕ}
use lib.Dec.{eqb}
use lib.ListN.{drop}
use borrow.Author.Tests.{eqb-true, eqb-false}
use Rattle.octets.specs.Lent.{Outcome}
use Rattle.refusal.specs.Refusal.{number as number_of_refusal, off_answered_by_on}
use Rattle.refusal.specs.RefusedBy.{RefusalNumber, no_refusal, refused_by, by_number, number_or_0}
use Rattle.telnet.specs.declared.Verb.{Verb}
use Rattle.telnet.specs.declared.Kind.{Kind}
use Rattle.telnet.specs.declared.Kind.TheVariants.{Data, Command as Simple, Negotiation, Subnegotiation}
use Rattle.telnet.proofs.Refusals.{front_by}
use Rattle.option_rules.specs.declared.Command.{Command}
use Rattle.option_rules.specs.declared.Side.{Side}
use Rattle.option_verbs.specs.declared.Whose.{Whose}
use Rattle.option_sides.specs.declared.Sides.{Sides}
use Rattle.option_verbs.specs.Verbs.{told_by}
use Rattle.option_sides.specs.Session.{side_at, with_side, received, requested}
use Rattle.option_sides.proofs.Setting.{own-side}
use Rattle.option_line.specs.declared.Sent.{Sent}
use Rattle.option_line.specs.Line.{received_on, requested_on, heard_event, heard_on}
use Rattle.option_line.specs.Theorems.{Kept}
use Rattle.option_line.proofs.Telling.{number_by, request-tells-all, receipt-tells-all}
use Rattle.option_line.proofs.Hearing.{heard-number, hear-tells}
use Rattle.claims.specs.Refusals.{one_of, Refuses, by_receipt}
use Rattle.claims.specs.Demand1.{line, RefusesBy, RefusesOnLine}
use Rattle.claims.proofs.OneOf.{of_none, more, wider, numbers_of}
use Rattle.claims.proofs.LineRefusals.{receives, requests}

-- what one side does, said of the session
session-by : (numbers : List ℕ) (s : Sides) (w : Whose) (o : ℕ) (x : Side) (r : RefusalNumber) → Refuses numbers (side_at s w o) x r → Refuses numbers s (with_side s w o x) r
session-by numbers s w o x no_refusal t = tt
session-by numbers s w o x (refused_by n) t = (t.0, ap (with_side s w o) t.1 ∙ own-side s w o)

pub session-receives : (s : Sides) (v : Verb) (o : ℕ) (accept : Bool)
    → Refuses [] s (received s v o accept).sides (by_receipt (number_or_0 (received s v o accept).refusal))
session-receives s v o accept =
    let w = (told_by v).whose in
    session-by [] s w o _ (by_receipt (number_or_0 (received s v o accept).refusal)) (receives o (side_at s w o) accept (told_by v).command)

pub session-requests : (s : Sides) (w : Whose) (o : ℕ) (c : Command)
    → Refuses (10 ∷ 11 ∷ 12 ∷ 13 ∷ []) s (requested s w o c).sides (by_number (number_or_0 (requested s w o c).refusal))
session-requests s w o c = session-by (10 ∷ 11 ∷ 12 ∷ 13 ∷ []) s w o _ (by_number (number_or_0 (requested s w o c).refusal)) (requests o (side_at s w o) c)

-- what is refused by one of some numbers and leaves all as it was
kept-so : (numbers : List ℕ) {L : Type 0} (found left : L) (r : RefusalNumber) → RefusesBy numbers r → left ≡ found → Refuses numbers found left r
kept-so numbers found left no_refusal t e = tt
kept-so numbers found left (refused_by n) t e = (t.0, e)

-- A step with its command on the line refuses by some numbers, if its number is one of them or none, and a refusal
-- keeps all.
module _ (numbers : List ℕ) (by : ℕ → RefusalNumber) (zero-by : by 0 ≡ no_refusal)
    (note-by : RefusesBy numbers (by off_answered_by_on) → by off_answered_by_on ≡ no_refusal) (s : Sides) (l : List ℕ) (at : ℕ) (u : Outcome Sent) where
  abbrev number : ℕ
  number = number_or_0 u.answer.refusal

  abbrev Goal : RefusalNumber → Type 0
  Goal r = Refuses numbers {L = Sides × (List ℕ × ℕ)} (s, (l, at)) (u.answer.sides, (u.lent, u.answer.place)) r

  by-note : RefusesBy numbers (by number) → Kept s l at u → (number ≡ 0 → ⊥) → (b : Bool) → eqb number off_answered_by_on ≡ b → Goal (by number)
  by-note t kept z true e =
      let is = eqb-true number off_answered_by_on e in
      subst⁻¹ Goal (ap by is ∙ note-by (subst (λ k. RefusesBy numbers (by k)) is t)) tt
  by-note t kept z false e =
      kept-so numbers _ _ (by number) t
      (ap (λ (o : Outcome Sent). (o.answer.sides, (o.lent, o.answer.place))) (kept z (eqb-false number off_answered_by_on e)))

  by_zero : RefusesBy numbers (by number) → Kept s l at u → (b : Bool) → eqb number 0 ≡ b → Goal (by number)
  by_zero t kept true e = subst⁻¹ Goal (ap by (eqb-true number 0 e) ∙ zero-by) tt
  by_zero t kept false e = by-note t kept (eqb-false number 0 e) (eqb number off_answered_by_on) refl

  on_line : RefusesBy numbers (by number) → Kept s l at u → RefusesOnLine numbers by s l at u
  on_line t kept = by_zero t kept (eqb number 0) refl

abbrev request_numbers : List ℕ
request_numbers = 10 ∷ 11 ∷ 12 ∷ 13 ∷ []

pub line-requests : (s : Sides) (w : Whose) (o : ℕ) (c : Command) (l : List ℕ) (at : ℕ)
    → RefusesOnLine (5 ∷ 4 ∷ request_numbers) by_number s l at (requested_on s w o c l at)
unfolding one_of
line-requests s w o c l at =
    let told = request-tells-all s w o c l at in
    let r = by_number (number_or_0 (requested s w o c).refusal) in
    on_line (5 ∷ 4 ∷ request_numbers) by_number refl (λ t. absurd t.0) s l at (requested_on s w o c l at)
    (number_by (λ n. RefusesBy (5 ∷ 4 ∷ request_numbers) (by_number n)) (tt, refl) (tt, refl) s w o _ l at (requested_on s w o c l at) told
    (numbers_of (5 ∷ 4 ∷ request_numbers) s ((requested s w o c).sides) r
    (wider request_numbers (5 ∷ 4 ∷ request_numbers) (λ n t. more 5 (4 ∷ request_numbers) n (more 4 request_numbers n t)) s ((requested s w o c).sides) r (session-requests s w o c))))
    told.kept

-- a receipt refuses nothing
nothing-refused : (ms : List ℕ) (s : Sides) (v : Verb) (o : ℕ) (accept : Bool)
    → RefusesBy ms (by_receipt (number_or_0 (received s v o accept).refusal))
nothing-refused ms s v o accept =
    let r = by_receipt (number_or_0 (received s v o accept).refusal) in
    numbers_of ms s _ r (wider [] ms (of_none ms) s _ r (session-receives s v o accept))

pub line-receives : (s : Sides) (v : Verb) (o : ℕ) (accept : Bool) (l : List ℕ) (at : ℕ)
    → RefusesOnLine (5 ∷ 4 ∷ []) by_receipt s l at (received_on s v o accept l at)
unfolding one_of
line-receives s v o accept l at =
    let told = receipt-tells-all s v o accept l at in
    on_line (5 ∷ 4 ∷ []) by_receipt refl (λ _. refl) s l at (received_on s v o accept l at)
    (number_by (λ n. RefusesBy (5 ∷ 4 ∷ []) (by_receipt n)) (tt, refl) (tt, refl) s (told_by v).whose o _ l at (received_on s v o accept l at) told
    (nothing-refused (5 ∷ 4 ∷ []) s v o accept))
    told.kept

pub line-hears : (s : Sides) (heard : List ℕ) (from : ℕ) (accept : Bool) (l : List ℕ) (at : ℕ)
    → RefusesOnLine (5 ∷ 4 ∷ line) by_receipt s l at (heard_on s heard from accept l at)
unfolding one_of
line-hears s heard from accept l at =
    on_line (5 ∷ 4 ∷ line) by_receipt refl (λ _. refl) s l at (heard_on s heard from accept l at)
    (heard-number s heard from accept l at (λ n. RefusesBy (5 ∷ 4 ∷ line) (by_receipt n)) (tt, refl) (tt, refl) tt
    (λ v o. nothing-refused (5 ∷ 4 ∷ line) s v o accept)
    (front_by (λ why. RefusesBy (5 ∷ 4 ∷ line) (by_receipt (number_of_refusal why))) (tt, refl) (tt, refl) (tt, refl) (tt, refl) (drop from heard)))
    (hear-tells s heard from accept l at).kept

pub line-hears-events : (s : Sides) (k : Kind) (accept : Bool) (l : List ℕ) (at : ℕ) → RefusesOnLine (5 ∷ 4 ∷ []) by_receipt s l at (heard_event s k accept l at)
line-hears-events s Data accept l at = tt
line-hears-events s (Simple c) accept l at = tt
line-hears-events s (Negotiation v o) accept l at = line-receives s v o accept l at
line-hears-events s (Subnegotiation o) accept l at = tt
