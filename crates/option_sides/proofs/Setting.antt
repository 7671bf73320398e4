-- Setting one of the ten sides sets that one alone: the theorem `Session.SetsOne`. Assumes nothing.
use mathlib.Core.Path.{◌≡◌, refl, sym, ap, ◌∙◌}
use Prim.Native.Nat.{ℕ}
use mathlib.Core.Bool.{Bool, true, false, not}
use borrow.Author.Tests.{eqb-true, eqb-false, ne_eqb}
use lib.Dec.{T, eqb}
use Rattle.option_rules.specs.declared.Side.{Side}
use Rattle.option_verbs.specs.declared.Whose.{Whose}
use Rattle.option_verbs.specs.declared.Whose.TheVariants.{Ours, Other}
use Rattle.option_sides.specs.declared.Pair.{Pair}
use Rattle.option_sides.specs.declared.Sides.{Sides}
use Rattle.option_rules.specs.Table.{binary, suppress_go_ahead, terminal_type, end_of_record, new_environ, choose, carried}
use Rattle.option_sides.specs.Session.{of_pair, in_pair, pair_at, with_pair, side_at, with_side, SetsOne}
use Rattle.octets.proofs.Choice.{choice}

-- what holds for each of the five, and where it is none of them, holds for the one that is chosen
pub by-option : {A : Type 0} (P : A → Type 0) (o : ℕ) {b g t r e n : A} → (o ≡ binary → P b) → (o ≡ suppress_go_ahead → P g)
    → (o ≡ terminal_type → P t) → (o ≡ end_of_record → P r) → (o ≡ new_environ → P e) → (carried o ≡ false → P n) → P (choose o b g t r e n)
unfolding choose carried
by-option P o fb fg ft fr fe fn =
    choice P (eqb o binary) (λ h. fb (eqb-true o binary h)) λ nb.
    choice P (eqb o suppress_go_ahead) (λ h. fg (eqb-true o suppress_go_ahead h)) λ ng.
    choice P (eqb o terminal_type) (λ h. ft (eqb-true o terminal_type h)) λ nt.
    choice P (eqb o end_of_record) (λ h. fr (eqb-true o end_of_record h)) λ nr.
    choice P (eqb o new_environ) (λ h. fe (eqb-true o new_environ h)) λ ne.
    fn (rw (nb, ng, nt, nr, ne))

module _ (s : Sides) (o : ℕ) (p : Pair) where
  pair-here : T (carried o) → pair_at (with_pair s o p) o ≡ p
  unfolding with_pair pair_at choose
  pair-here c =
      by-option (λ (u : Sides). pair_at u o ≡ p) o (λ e. rw e) (λ e. rw e) (λ e. rw e) (λ e. rw e) (λ e. rw e) (λ n. absurd (rw n at c))

  pair-elsewhere : (q : ℕ) → (q ≡ o → ⊥) → pair_at (with_pair s o p) q ≡ pair_at s q
  unfolding with_pair pair_at choose
  pair-elsewhere q d =
      by-option (λ (u : Sides). pair_at u q ≡ pair_at s q) o
      (λ e. rw (ne_eqb q binary (λ h. d (h ∙ sym e))))
      (λ e. rw (ne_eqb q suppress_go_ahead (λ h. d (h ∙ sym e))))
      (λ e. rw (ne_eqb q terminal_type (λ h. d (h ∙ sym e))))
      (λ e. rw (ne_eqb q end_of_record (λ h. d (h ∙ sym e))))
      (λ e. rw (ne_eqb q new_environ (λ h. d (h ∙ sym e))))
      (λ n. refl)

  none-set : T (not (carried o)) → with_pair s o p ≡ s
  unfolding with_pair carried choose
  none-set c =
      by-option (λ (u : Sides). u ≡ s) o (λ e. absurd (rw e at c)) (λ e. absurd (rw e at c)) (λ e. absurd (rw e at c))
      (λ e. absurd (rw e at c)) (λ e. absurd (rw e at c)) (λ n. refl)

set-of : (p : Pair) (w : Whose) (x : Side) → of_pair (in_pair p w x) w ≡ x
set-of p Ours x = refl
set-of p Other x = refl

kept_of : (p : Pair) (w v : Whose) (x : Side) → (v ≡ w → ⊥) → of_pair (in_pair p w x) v ≡ of_pair p v
kept_of p Ours Ours x d = absurd (d refl)
kept_of p Ours Other x d = refl
kept_of p Other Ours x d = refl
kept_of p Other Other x d = absurd (d refl)

module _ (s : Sides) (w : Whose) (o : ℕ) (x : Side) where
  other-side : (b : Bool) → carried o ≡ b → (v : Whose) → (v ≡ w → ⊥) → side_at (with_side s w o x) v o ≡ side_at s v o
  other-side true c v d = rw (pair-here s o (in_pair (pair_at s o) w x) (rw c tt)) (kept_of (pair_at s o) w v x d)
  other-side false c v d = rw (none-set s o (in_pair (pair_at s o) w x) (rw c tt))

  elsewhere : (v : Whose) (p : ℕ) (b : Bool) → eqb p o ≡ b → ((v ≡ w) × (p ≡ o) → ⊥) → side_at (with_side s w o x) v p ≡ side_at s v p
  elsewhere v p true e d =
      let same = eqb-true p o e in
      rw same (other-side (carried o) refl v (λ h. d (h, same)))
  elsewhere v p false e d = rw (pair-elsewhere s o (in_pair (pair_at s o) w x) p (eqb-false p o e))

pub sets-one : SetsOne
sets-one s w o x =
    record {
      here = λ c. rw (pair-here s o (in_pair (pair_at s o) w x) c) (set-of (pair_at s o) w x);
      elsewhere = λ v p d. elsewhere s w o x v p (eqb p o) refl d;
      untouched = λ c. none-set s o (in_pair (pair_at s o) w x) c;
    }

-- a side set to what it is
own_pair : (s : Sides) (o : ℕ) → with_pair s o (pair_at s o) ≡ s
unfolding with_pair pair_at choose
own_pair s o = by-option (λ (u : Sides). u ≡ s) o (λ e. rw e) (λ e. rw e) (λ e. rw e) (λ e. rw e) (λ e. rw e) (λ _. refl)

own_in : (p : Pair) (w : Whose) → in_pair p w (of_pair p w) ≡ p
own_in p Ours = refl
own_in p Other = refl

pub own-side : (s : Sides) (w : Whose) (o : ℕ) → with_side s w o (side_at s w o) ≡ s
own-side s w o = ap (with_pair s o) (own_in (pair_at s o) w) ∙ own_pair s o
