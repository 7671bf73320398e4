-- What is told of a step of one side with its command at a place of a line (`Theorems.RequestTells`,
-- `Theorems.ReceiptTells`). Assumes nothing.
use mathlib.Core.Path.{◌≡◌, refl, ap, ◌∙◌, subst⁻¹}
use mathlib.Core.List.{List}
use mathlib.Core.Logic.{◌⊎◌, inl, inr, ⊎_elim}
use Prim.Native.Nat.{ℕ, ◌+◌, ◌≤◌, ◌<◌}
use native.Mathlib.Omega.{arith}
use lib.ListN.{length}
use borrow.Author.Tests.{le-leb, lt-leb}
use Rattle.octets.specs.Lent.{Outcome, outcome}
use Rattle.octets.proofs.Order.{below-or-above}
use Rattle.std.specs.Prelude.{Option, None, Some}
use Rattle.refusal.specs.declared.Refusal.{Refusal}
use Rattle.refusal.specs.declared.Refusal.TheVariants.{NoRoom, PastTheEnd}
use Rattle.refusal.specs.RefusedBy.{number_or_0}
use Rattle.option_rules.specs.declared.Command.{Command}
use Rattle.telnet.specs.Write.{written}
use Rattle.option_rules.specs.declared.Step.{Step}
use Rattle.option_rules.proofs.Cells as Cells
use Rattle.option_rules.proofs.Cells.{receipt-tells, request-tells}
use Rattle.option_verbs.specs.declared.Whose.{Whose}
use Rattle.option_sides.specs.declared.Sides.{Sides}
use Rattle.option_verbs.specs.Verbs.{told_by, command_for}
use Rattle.option_sides.specs.Session.{side_at, with_side, answered_by}
use Rattle.option_sides.proofs.Setting.{own-side}
use Rattle.option_line.specs.declared.Sent.{Sent}
use Rattle.option_line.specs.Line.{sent, sent_by, unless_past, received_on, requested_on}
use Rattle.option_line.specs.Theorems.{carrying, place_after, taken, Short, number_of, Kept, Tells, RequestTells, ReceiptTells}
use Rattle.option_line.proofs.Places.{past, within}

module _ (s : Sides) (line : List ℕ) (at : ℕ) where
  -- a command that is to be sent fits or does not; what is not to be sent is never short
  fits-or-short : (e : Option Command) → Short line at e ⊎ (Short line at e → ⊥)
  fits-or-short None = inr (λ h. h)
  fits-or-short (Some c) = ⊎_elim inl (λ h. inr (λ g. omega (arith, h, g))) (below-or-above (length line) (at + 3))

  module _ (w : Whose) (o : ℕ) (x : Sides) (n : Option Refusal) where
    sent-where-fits : (e : Option Command) → (Short line at e → ⊥)
        → sent_by s (record { sides = x; refusal = n; writes = command_for w o e }) line at
        ≡ outcome (sent x n (place_after at e)) (carrying line at w o e)
    unfolding sent_by written
    sent-where-fits None h = refl
    sent-where-fits (Some c) h =
        rw (le-leb (at + 3) (length line) (⊎_elim (λ g. absurd (h g)) (λ g. g) (below-or-above (length line) (at + 3))))

    not-sent-where-short : (e : Option Command) → Short line at e
        → sent_by s (record { sides = x; refusal = n; writes = command_for w o e }) line at ≡ outcome (sent s (Some NoRoom) at) line
    unfolding sent_by
    not-sent-where-short None h = absurd h
    not-sent-where-short (Some c) h = rw (lt-leb (at + 3) (length line) h)

  module _ (w : Whose) (o : ℕ) (d : Step) (t : Cells.Tells (side_at s w o) d) where
    abbrev r : Outcome Sent
    r = unless_past s line at (sent_by s (answered_by s w o d) line at)

    r-past : length line < at → r ≡ outcome (sent s (Some PastTheEnd) at) line
    r-past = past s line at (sent_by s (answered_by s w o d) line at)

    r-short : at ≤ length line → Short line at d.sends → r ≡ outcome (sent s (Some NoRoom) at) line
    r-short h g =
        within s line at (sent_by s (answered_by s w o d) line at) h
        ∙ not-sent-where-short w o (with_side s w o d.side) d.refusal d.sends g

    r-taken : at ≤ length line → (Short line at d.sends → ⊥) → r ≡ taken s w o d line at
    r-taken h g =
        within s line at (sent_by s (answered_by s w o d) line at) h
        ∙ sent-where-fits w o (with_side s w o d.side) d.refusal d.sends g

    -- the table tells neither 4 nor 5
    over-five : number_or_0 d.refusal ≡ 0 ⊎ (6 ≤ number_or_0 d.refusal)
    over-five = ⊎_elim inl (λ u. inr (⊎_elim (λ e. omega (arith, e)) (λ f. omega (arith, f.least)) u)) t

    -- the three ways
    pub by_way : (P : Outcome Sent → Type 0) → (length line < at → P (outcome (sent s (Some PastTheEnd) at) line))
        → (at ≤ length line → Short line at d.sends → P (outcome (sent s (Some NoRoom) at) line))
        → (at ≤ length line → (Short line at d.sends → ⊥) → P (taken s w o d line at)) → P r
    by_way P f g k =
        ⊎_elim
        (λ h. subst⁻¹ P (r-past h) (f h))
        (λ h. ⊎_elim (λ q. subst⁻¹ P (r-short h q) (g h q)) (λ q. subst⁻¹ P (r-taken h q) (k h q)) (fits-or-short d.sends))
        (below-or-above (length line) at)

    taken-kept : Kept s line at (taken s w o d line at)
    taken-kept a b = ⊎_elim (λ e. absurd (a e)) (λ u. ⊎_elim (λ e. absurd (b e)) unchanged u) t
      where
        unchanged : Cells.Refuses (side_at s w o) d → taken s w o d line at ≡ outcome (sent s d.refusal at) line
        unchanged f = rw (f.side, f.silent, own-side s w o)

    pub tells : Tells s w o d line at r
    tells = record {
      five = (
        by_way (λ (u : Outcome Sent). number_of u ≡ 5 → length line < at) (λ h _. h) (λ _ _ e. absurd (omega (arith, e)))
            (λ _ _ e. ⊎_elim (λ z. absurd (omega (arith, e, z))) (λ z. absurd (omega (arith, e, z))) over-five),
        λ h. ap number_of (r-past h),
      );
      four = (
        by_way (λ (u : Outcome Sent). number_of u ≡ 4 → (at ≤ length line) × Short line at d.sends) (λ _ e. absurd (omega (arith, e)))
            (λ h g _. (h, g)) (λ _ _ e. ⊎_elim (λ z. absurd (omega (arith, e, z))) (λ z. absurd (omega (arith, e, z))) over-five),
        λ h. ap number_of (r-short h.0 h.1),
      );
      step = r-taken;
      kept = by_way (Kept s line at) (λ _ _ _. refl) (λ _ _ _ _. refl) (λ _ _. taken-kept);
    }

pub request-tells-all : RequestTells
unfolding requested_on
request-tells-all s w o c line at = tells s line at w o _ (request-tells o (side_at s w o) c)

pub receipt-tells-all : ReceiptTells
unfolding received_on
receipt-tells-all s v o accept line at =
    let w = (told_by v).whose in tells s line at w o _ (receipt-tells o (side_at s w o) accept (told_by v).command)

-- what holds of 5, of 4 and of the table's number holds of the number that is told
pub number_by : (P : ℕ → Type 0) → P 5 → P 4 → (s : Sides) (w : Whose) (o : ℕ) (d : Step) (line : List ℕ) (at : ℕ) (r : Outcome Sent)
    → Tells s w o d line at r → P (number_or_0 d.refusal) → P (number_of r)
number_by P five four s w o d line at r t step =
    ⊎_elim
    (λ h. subst⁻¹ P (t.five.1 h) five)
    (λ h. ⊎_elim (λ g. subst⁻¹ P (t.four.1 (h, g)) four) (λ g. subst⁻¹ P (ap number_of (t.step h g)) step) (fits-or-short s line at d.sends))
    (below-or-above (length line) at)
