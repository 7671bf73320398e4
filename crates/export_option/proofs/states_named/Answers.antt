-- `export_option::states_named` meets its contract: state by state, and by the tests of the number. Assumes nothing.
use mathlib.Core.Path.{◌≡◌, refl, sym}
use mathlib.Core.Bool.{false}
use mathlib.Core.Logic.{◌↔◌, ◌⊎◌, inl, inr, ⊎_elim}
use Prim.Native.Nat.{ℕ, ◌≤◌, ◌<◌}
use native.Mathlib.Omega.{arith}
use lib.Dec.{eqb}
use borrow.Author.Tests.{eqb-true, ne_eqb}
use Rattle.octets.proofs.Choice.{choice}
use Rattle.option_rules.specs.declared.Side.{Side}
use Rattle.option_rules.specs.declared.Side.TheVariants.{Off, On, WantOff, WantOffThenOn, WantOn, WantOnThenOff}
use Rattle.option_sides.specs.declared.Pair.{Pair}
use Rattle.option_sides.specs.declared.Sides.{Sides}
use Rattle.export.proofs.Named.{exactly}
use Rattle.export_option.specs.Numbers.{side_number, side_named, pair_numbers, pair_named, sides_numbers, sides_named}
use Rattle.export_option.proofs.states_named.Goals as goal

side : (s : Side) → side_named (side_number s) ≡ s
unfolding side_named
side Off = refl
side On = refl
side WantOff = refl
side WantOffThenOn = refl
side WantOn = refl
side WantOnThenOff = refl

pair : (p : Pair) → pair_named (pair_numbers p) ≡ p
pair p = rw (side p.ours, side p.other)

all : (s : Sides) → sides_named (sides_numbers s) ≡ s
all s = rw (pair s.binary, pair s.suppress_go_ahead, pair s.terminal, pair s.records, pair s.environ)

abbrev Reads : ℕ → Side → Type 0
Reads n s = (side_number s ≡ n) ⊎ (s ≡ Off)

reads : (n : ℕ) → Reads n (side_named n)
unfolding side_named
reads n =
    choice (Reads n) (eqb n 1) (λ e. inl (sym (eqb-true n 1 e)))
    (λ _. choice (Reads n) (eqb n 2) (λ e. inl (sym (eqb-true n 2 e)))
    (λ _. choice (Reads n) (eqb n 3) (λ e. inl (sym (eqb-true n 3 e)))
    (λ _. choice (Reads n) (eqb n 4) (λ e. inl (sym (eqb-true n 4 e)))
    (λ _. choice (Reads n) (eqb n 5) (λ e. inl (sym (eqb-true n 5 e))) (λ _. inr refl)))))

-- a number that names one of the five is from 1 to 5
differs : (n k : ℕ) → 1 ≤ k → k ≤ 5 → (n ≡ 0) ⊎ (5 < n) → eqb n k ≡ false
differs n k l h o = ne_eqb n k (λ e. ⊎_elim (λ z. omega (arith, z, e, l)) (λ z. omega (arith, z, e, h)) o)

off : (n : ℕ) → (n ≡ 0) ⊎ (5 < n) → side_named n ≡ Off
unfolding side_named
off n o = rw (
  differs n 1 (omega arith) (omega arith) o,
  differs n 2 (omega arith) (omega arith) o,
  differs n 3 (omega arith) (omega arith) o,
  differs n 4 (omega arith) (omega arith) o,
  differs n 5 (omega arith) (omega arith) o,
)

named : (s : Side) → (0 ≡ side_number s → ⊥) → (n : ℕ) → (side_named n ≡ s) ↔ (n ≡ side_number s)
named s = exactly side_number side_named Off reads s (side s)

pub returns : goal.returns
returns c =
    record {
      back = all;
      on = named On (λ e. omega (arith, e));
      want_off = named WantOff (λ e. omega (arith, e));
      want_off_then_on = named WantOffThenOn (λ e. omega (arith, e));
      want_on = named WantOn (λ e. omega (arith, e));
      want_on_then_off = named WantOnThenOff (λ e. omega (arith, e));
      off = off;
    }
