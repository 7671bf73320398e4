-- Which verb and which kind numbers name (`Numbers.KindsNamed`): by the cases of the kind, and by the tests of the
-- numbers. Assumes nothing.
use mathlib.Core.Path.{◌≡◌, refl}
use mathlib.Core.Bool.{false}
use mathlib.Core.Logic.{◌↔◌, ◌⊎◌, inl, inr, ⊎_elim}
use Prim.Native.Nat.{ℕ, ◌+◌, ◌≤◌, ◌<◌}
use native.Mathlib.Omega.{arith}
use lib.Dec.{eqb}
use borrow.Author.Tests.{eqb-true, eqb-false, ne_eqb}
use Rattle.std.specs.Prelude.{Option, None, Some}
use Rattle.octets.proofs.Choice.{choice}
use Rattle.octets.proofs.Order.{below-or-above}
use Rattle.telnet.specs.declared.Verb.{Verb}
use Rattle.telnet.specs.declared.Verb.TheVariants.{Will, Wont, Do, Dont}
use Rattle.telnet.specs.declared.Kind.{Kind}
use Rattle.telnet.specs.declared.Kind.TheVariants.{Data, Command, Negotiation, Subnegotiation}
use Rattle.export.specs.Numbers.{kind_numbers, verb_named, negotiation_named, kind_named, NoCode}

pub back : (k : Kind) → kind_named (kind_numbers k).what (kind_numbers k).code (kind_numbers k).option ≡ Some k
unfolding verb_named kind_named
back Data = refl
back (Command c) = refl
back (Negotiation Will o) = refl
back (Negotiation Wont o) = refl
back (Negotiation Do o) = refl
back (Negotiation Dont o) = refl
back (Subnegotiation o) = refl

some-none : {A B : Type 0} {x : B} → Some x ≡ None → A
some-none e = let z : ◌≡◌ {A = ℕ} 0 1 = cc in absurd (omega (arith, z))

-- a number that is none of four in a row is below or above them
abbrev Outside : ℕ → ℕ → Type 0
Outside m n = (n < m) ⊎ (3 + m < n)

above : (m k n : ℕ) → k ≤ 1 + m → m ≤ n → eqb n m ≡ false → k ≤ n
above m k n next h e = omega (arith, next, h, eqb-false n m e)

outside : (m n : ℕ) → eqb n m ≡ false → eqb n (1 + m) ≡ false → eqb n (2 + m) ≡ false → eqb n (3 + m) ≡ false
    → Outside m n
outside m n a b c d =
    ⊎_elim inl
    (λ h.
    let one = above m (1 + m) n (omega arith) h a in
    let two = above (1 + m) (2 + m) n (omega arith) one b in
    let three = above (2 + m) (3 + m) n (omega arith) two c in
    inr (omega (arith, above (3 + m) (4 + m) n (omega arith) three d)))
    (below-or-above n m)

apart : (m n k : ℕ) → m ≤ k → k ≤ 3 + m → Outside m n → eqb n k ≡ false
apart m n k l h o = ne_eqb n k (λ e. ⊎_elim (λ g. omega (arith, g, e, l)) (λ g. omega (arith, g, e, h)) o)

abbrev SaysVerb : ℕ → Option Verb → Type 0
SaysVerb c v = v ≡ None → NoCode c

pub no-verb : (c : ℕ) → (verb_named c ≡ None) ↔ NoCode c
unfolding verb_named
no-verb c = (
  choice (SaysVerb c) (eqb c 251) (λ _. some-none)
      (λ x. choice (SaysVerb c) (eqb c 252) (λ _. some-none)
      (λ y. choice (SaysVerb c) (eqb c 253) (λ _. some-none)
      (λ z. choice (SaysVerb c) (eqb c 254) (λ _. some-none) (λ t _. outside 251 c x y z t)))),
  λ h. rw (
    apart 251 c 251 (omega arith) (omega arith) h,
    apart 251 c 252 (omega arith) (omega arith) h,
    apart 251 c 253 (omega arith) (omega arith) h,
    apart 251 c 254 (omega arith) (omega arith) h,
  ),
)

no-negotiation : (v : Option Verb) (o : ℕ) → negotiation_named v o ≡ None → v ≡ None
no-negotiation None o e = refl
no-negotiation (Some v) o e = some-none e

abbrev SaysKind : ℕ → ℕ → Option Kind → Type 0
SaysKind w c k = k ≡ None → ((w < 1) ⊎ (4 < w)) ⊎ ((w ≡ 3) × NoCode c)

pub no_kind : (w c o : ℕ) → (kind_named w c o ≡ None) ↔ (((w < 1) ⊎ (4 < w)) ⊎ ((w ≡ 3) × NoCode c))
unfolding kind_named
no_kind w c o = (
  choice (SaysKind w c) (eqb w 1) (λ _. some-none)
      (λ x. choice (SaysKind w c) (eqb w 2) (λ _. some-none)
      (λ y. choice (SaysKind w c) (eqb w 3)
      (λ e n. inr (eqb-true w 3 e, (no-verb c).0 (no-negotiation (verb_named c) o n)))
      (λ z. choice (SaysKind w c) (eqb w 4) (λ _. some-none) (λ t _. inl (outside 1 w x y z t))))),
  ⊎_elim
      (λ h. rw (
        apart 1 w 1 (omega arith) (omega arith) h,
        apart 1 w 2 (omega arith) (omega arith) h,
        apart 1 w 3 (omega arith) (omega arith) h,
        apart 1 w 4 (omega arith) (omega arith) h,
      ))
      (λ h. rw (h.0, (no-verb c).1 h.1)),
)
