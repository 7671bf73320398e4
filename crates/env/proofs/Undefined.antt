-- Undefined variables: a look-up passes over them (`Theorems.LookupPassesOver`), and a payload that is read can be
-- written without them (`read-defined`). Assumes nothing.
use Rattle.std.specs.Prelude.{if◌then◌else◌}
use mathlib.Core.Path.{◌≡◌, refl}
use mathlib.Core.Bool.{Bool, true, false}
use mathlib.Core.List.{List, [], ◌∷◌, ◌++◌}
use Prim.Native.Nat.{ℕ, ◌≤◌}
use native.Mathlib.Omega.{arith}
use lib.Dec.{T}
use lib.ListN.{length, length-append}
use mir.Facts.{and_yes, yes_and}
use Rattle.octets.proofs.Choice.{choice}
use Rattle.env.specs.Variable.{Value, undefined, defined, Variable, is_kind, is_defined, defined_ones, is, among, repeated, or_further, lookup}
use Rattle.env.specs.Read.{reading_of, says}
use Rattle.env.specs.Write.{written_variable, written_variables, payload_of, kinds_good, is_empty, nameless}
use Rattle.env.specs.Theorems.{LookupPassesOver}
use Rattle.env.proofs.Sound.{neither, Says}
use Rattle.env.proofs.ReadingBack.{accepted, accepted-only, reads-back}
use Rattle.env.proofs.WritingBack.{writes-back}

-- what a variable and those after it give a look-up, by its value
passes : (kind : ℕ) (name : List ℕ) (v : Variable) (vs : List Variable) (u : Value) (test : Bool) → v.value ≡ u → is kind name v ≡ test
    → lookup kind name vs ≡ lookup kind name (defined_ones vs)
    → (if test then or_further u (lookup kind name vs) else lookup kind name vs)
    ≡ lookup kind name (if is_defined u then v ∷ defined_ones vs else defined_ones vs)
unfolding lookup or_further is_defined
passes kind name v vs undefined true e t h = h
passes kind name v vs undefined false e t h = h
passes kind name v vs (defined value) test e t h = rw (t, e, h)

pub lookup-passes-over : LookupPassesOver
unfolding lookup defined_ones
lookup-passes-over kind name [] = refl
lookup-passes-over kind name (v ∷ vs) = passes kind name v vs v.value (is kind name v) refl refl (lookup-passes-over kind name vs)

-- what holds of variables holds of the defined ones
kinds_kept : (vs : List Variable) → T (kinds_good vs) → T (kinds_good (defined_ones vs))
unfolding kinds_good defined_ones
kinds_kept [] g = g
kinds_kept (v ∷ vs) g =
    let good = and_yes (is_kind v.kind) (kinds_good vs) g in
    let rest = kinds_kept vs good.1 in
    choice (λ (l : List Variable). T (kinds_good l)) (is_defined v.value)
    (λ _. yes_and (is_kind v.kind) (kinds_good (defined_ones vs)) good.0 rest) (λ _. rest)

named-kept : (vs : List Variable) → nameless vs ≡ false → nameless (defined_ones vs) ≡ false
unfolding nameless defined_ones
named-kept [] e = e
named-kept (v ∷ vs) e =
    let full = neither (is_empty v.name) (nameless vs) e in
    let rest = named-kept vs full.1 in
    choice (λ (l : List Variable). nameless l ≡ false) (is_defined v.value) (λ _. rw (full.0, rest)) (λ _. rest)

apart-kept : (kind : ℕ) (name : List ℕ) (vs : List Variable) → among kind name vs ≡ false → among kind name (defined_ones vs) ≡ false
unfolding among defined_ones
apart-kept kind name [] e = e
apart-kept kind name (v ∷ vs) e =
    let other = neither (is kind name v) (among kind name vs) e in
    let rest = apart-kept kind name vs other.1 in
    choice (λ (l : List Variable). among kind name l ≡ false) (is_defined v.value) (λ _. rw (other.0, rest)) (λ _. rest)

once-kept : (vs : List Variable) → repeated vs ≡ false → repeated (defined_ones vs) ≡ false
unfolding repeated defined_ones
once-kept [] e = e
once-kept (v ∷ vs) e =
    let once = neither (among v.kind v.name vs) (repeated vs) e in
    let rest = once-kept vs once.1 in
    choice (λ (l : List Variable). repeated l ≡ false) (is_defined v.value)
    (λ _. rw (apart-kept v.kind v.name vs once.0, rest)) (λ _. rest)

few-kept : (vs : List Variable) → length (defined_ones vs) ≤ length vs
unfolding defined_ones
few-kept [] = omega arith
few-kept (v ∷ vs) =
    choice (λ (l : List Variable). length l ≤ length (v ∷ vs)) (is_defined v.value) (λ _. omega (arith, few-kept vs)) (λ _. omega (arith, few-kept vs))

short-kept : (vs : List Variable) → length (written_variables (defined_ones vs)) ≤ length (written_variables vs)
unfolding written_variables defined_ones
short-kept [] = omega arith
short-kept (v ∷ vs) =
    let this = written_variable v in
    let all = length-append this (written_variables vs) in
    choice (λ (l : List Variable). length (written_variables l) ≤ length (this ++ written_variables vs)) (is_defined v.value)
    (λ _. omega (arith, short-kept vs, all, length-append this (written_variables (defined_ones vs)))) (λ _. omega (arith, short-kept vs, all))

-- a payload that is read, written without its undefined variables, is read as those that are left
pub read-defined : (payload : List ℕ) (first : ℕ) (vs : List Variable) → reading_of payload ≡ says first vs
    → reading_of (payload_of first (defined_ones vs)) ≡ says first (defined_ones vs)
read-defined payload first vs e =
    let said = accepted-only first vs (writes-back payload first vs e).0 in
    let s = said.0 in
    let short = said.1 in
    let sound = s.sound in
    let kept : Says first (defined_ones vs) = record {
      begins = s.begins;
      sound = record { kinds = kinds_kept vs sound.kinds; full = named-kept vs sound.full; few = omega (arith, sound.few, few-kept vs) };
      once = once-kept vs s.once;
    } in
    reads-back first (defined_ones vs) (accepted first (defined_ones vs) kept (omega (arith, short-kept vs)))
