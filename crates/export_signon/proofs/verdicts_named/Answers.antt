-- `export_signon::verdicts_named` meets its contract: verdict by verdict, and by the tests of the number. Assumes
-- nothing.
use mathlib.Core.Path.{◌≡◌, refl, sym}
use mathlib.Core.Logic.{◌⊎◌, inl, inr}
use Prim.Native.Nat.{ℕ}
use native.Mathlib.Omega.{arith}
use lib.Dec.{eqb}
use borrow.Author.Tests.{eqb-true, ne_eqb}
use Rattle.octets.proofs.Choice.{choice}
use Rattle.signon.specs.declared.Verdict.{Verdict}
use Rattle.signon.specs.declared.Verdict.TheVariants.{Panel, NotKnown, Disabled, Failed, Grant}
use Rattle.export.proofs.Named.{exactly}
use Rattle.export_signon.specs.Numbers.{verdict_number, verdict_named}
use Rattle.export_signon.proofs.verdicts_named.Goals as goal

back : (v : Verdict) → verdict_named (verdict_number v) ≡ v
unfolding verdict_named
back Panel = refl
back NotKnown = refl
back Disabled = refl
back Failed = refl
back Grant = refl

abbrev Reads : ℕ → Verdict → Type 0
Reads n v = (verdict_number v ≡ n) ⊎ (v ≡ Failed)

reads : (n : ℕ) → (verdict_number (verdict_named n) ≡ n) ⊎ (verdict_named n ≡ Failed)
unfolding verdict_named
reads n =
    choice (Reads n) (eqb n 1) (λ e. inl (sym (eqb-true n 1 e)))
    (λ _. choice (Reads n) (eqb n 2) (λ e. inl (sym (eqb-true n 2 e)))
    (λ _. choice (Reads n) (eqb n 3) (λ e. inl (sym (eqb-true n 3 e)))
    (λ _. choice (Reads n) (eqb n 5) (λ e. inl (sym (eqb-true n 5 e))) (λ _. inr refl))))

failed : (n : ℕ) → (n ≡ 1 → ⊥) → (n ≡ 2 → ⊥) → (n ≡ 3 → ⊥) → (n ≡ 5 → ⊥) → verdict_named n ≡ Failed
unfolding verdict_named
failed n a b c d = rw (ne_eqb n 1 a, ne_eqb n 2 b, ne_eqb n 3 c, ne_eqb n 5 d)

pub returns : goal.returns
returns c =
    record {
      back = back;
      panel = exactly verdict_number verdict_named Failed reads Panel (back Panel) (λ e. omega (arith, e));
      not_known = exactly verdict_number verdict_named Failed reads NotKnown (back NotKnown) (λ e. omega (arith, e));
      disabled = exactly verdict_number verdict_named Failed reads Disabled (back Disabled) (λ e. omega (arith, e));
      grant = exactly verdict_number verdict_named Failed reads Grant (back Grant) (λ e. omega (arith, e));
      failed = failed;
    }
