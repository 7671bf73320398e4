-- The tests of kinds, names and repeats are what they are named after: the theorems `Theorems.IsBoth`, `AmongIsOccurs`
-- and `RepeatedIsTwice`. Assumes nothing.
use mathlib.Core.Path.{◌≡◌, refl}
use mathlib.Core.Bool.{Bool, true, false, ◌||◌}
use mathlib.Core.List.{List, [], ◌∷◌, ◌++◌}
use mathlib.Core.Logic.{◌⊎◌, inl, inr, ⊎_elim}
use Prim.Native.Nat.{ℕ}
use lib.Dec.{T, eqb, eqb→eq, eqb_refl}
use mir.Facts.{and_yes, yes_and, or_yes}
use Rattle.octets.specs.Same.{same}
use Rattle.octets.proofs.Equality.{same-sound, same_refl}
use Rattle.env.specs.Variable.{Variable, is, among, repeated}
use Rattle.env.specs.Theorems.{IsBoth, Occurs, AmongIsOccurs, Twice, RepeatedIsTwice}

yes-or : (s t : Bool) → T s ⊎ T t → T (s || t)
yes-or true t h = tt
yes-or false t (inl h) = absurd h
yes-or false t (inr h) = h

pub is-both : IsBoth
unfolding is
is-both kind name v = (
  λ t. let both = and_yes (eqb kind v.kind) (same name v.name) t in (eqb→eq kind v.kind both.0, same-sound name v.name both.1),
  λ e. rw (e.0, e.1) (yes_and (eqb v.kind v.kind) (same v.name v.name) (eqb_refl v.kind) (same_refl v.name)),
)

among-here : (kind : ℕ) (name : List ℕ) (before : List Variable) (v : Variable) (after : List Variable)
    → kind ≡ v.kind → name ≡ v.name → T (among kind name (before ++ v ∷ after))
unfolding among
among-here kind name [] v after k n = yes-or (is kind name v) (among kind name after) (inl ((is-both kind name v).1 (k, n)))
among-here kind name (u ∷ us) v after k n =
    yes-or (is kind name u) (among kind name (us ++ v ∷ after)) (inr (among-here kind name us v after k n))

pub among-occurs : (kind : ℕ) (name : List ℕ) (vs : List Variable) → T (among kind name vs) → Occurs kind name vs
unfolding among
among-occurs kind name [] t = absurd t
among-occurs kind name (v ∷ vs) t =
    ⊎_elim (λ i. here ((is-both kind name v).0 i)) (λ i. later (among-occurs kind name vs i)) (or_yes (is kind name v) (among kind name vs) t)
  where
    here : (kind ≡ v.kind) × (name ≡ v.name) → Occurs kind name (v ∷ vs)
    here e = record { before = []; it = v; after = vs; there = refl; same_kind = e.0; same_name = e.1 }

    later : Occurs kind name vs → Occurs kind name (v ∷ vs)
    later o = record {
      before = v ∷ o.before;
      it = o.it;
      after = o.after;
      there = rw o.there;
      same_kind = o.same_kind;
      same_name = o.same_name;
    }

pub among-is-occurs : AmongIsOccurs
among-is-occurs kind name vs =
    (among-occurs kind name vs, λ o. rw o.there (among-here kind name o.before o.it o.after o.same_kind o.same_name))

repeated-here : (before : List Variable) (v : Variable) (after : List Variable)
    → Occurs v.kind v.name after → T (repeated (before ++ v ∷ after))
unfolding repeated
repeated-here [] v after o = yes-or (among v.kind v.name after) (repeated after) (inl ((among-is-occurs v.kind v.name after).1 o))
repeated-here (u ∷ us) v after o =
    yes-or (among u.kind u.name (us ++ v ∷ after)) (repeated (us ++ v ∷ after)) (inr (repeated-here us v after o))

repeated-twice : (vs : List Variable) → T (repeated vs) → Twice vs
unfolding repeated
repeated-twice [] t = absurd t
repeated-twice (v ∷ vs) t =
    ⊎_elim (λ i. record { before = []; it = v; after = vs; there = refl; again = among-occurs v.kind v.name vs i })
    (λ i. later (repeated-twice vs i)) (or_yes (among v.kind v.name vs) (repeated vs) t)
  where
    later : Twice vs → Twice (v ∷ vs)
    later t = record { before = v ∷ t.before; it = t.it; after = t.after; there = rw t.there; again = t.again }

pub repeated-is-twice : RepeatedIsTwice
repeated-is-twice vs = (repeated-twice vs, λ t. rw t.there (repeated-here t.before t.it t.after t.again))
