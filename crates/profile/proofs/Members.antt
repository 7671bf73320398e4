-- A look-up is membership: the theorem `Theorems.LookupIsMembership`. Assumes nothing.
use mathlib.Core.Path.{◌≡◌, ap, subst, ◌∙◌}
use mathlib.Core.List.{List, [], ◌∷◌, ◌++◌}
use Prim.Native.Nat.{ℕ}
use native.Mathlib.Omega.{arith}
use lib.Dec.{T}
use denote.Floats.{passes, is_true}
use Rattle.octets.specs.Same.{same}
use Rattle.octets.proofs.Choice.{choice}
use Rattle.octets.proofs.Equality.{same-sound, same_refl}
use Rattle.names.specs.Order.{precedes}
use Rattle.names.proofs.Order.{strict-and-total}
use Rattle.profile.specs.Profile.{Shape, Profile}
use Rattle.profile.specs.Lookup.{one_profile, profile_named}
use Rattle.profile.specs.Theorems.{Ascending, Occurs, LookupIsMembership}

-- what is found is there, and has the name
found : (name : List ℕ) (p : Profile) (ps : List Profile) → profile_named name ps ≡ one_profile p → Occurs p ps × (name ≡ p.name)
unfolding profile_named
found name p [] = λ e. let z : ◌≡◌ {A = ℕ} 0 1 = cc in absurd (omega arith)
found name p (q ∷ ps) =
    choice (λ l. l ≡ one_profile p → Occurs p (q ∷ ps) × (name ≡ p.name)) (same name q.name)
    (λ t e. let i : q ≡ p = cc in (
      record { before = []; after = ps; there = ap (λ r. r ∷ ps) i },
      same-sound name q.name (passes (same name q.name) t) ∙ ap (λ r. r.name) i,
    ))
    (λ _ e. let o = found name p ps e in (
      record { before = q ∷ o.0.before; after = o.0.after; there = ap (λ l. q ∷ l) o.0.there },
      o.1,
    ))

-- a name before all of some names comes before each of theirs
ahead : (s : Shape) (before : List ℕ) (l : List Profile) (p : Profile) (after : List Profile)
    → Ascending s before (l ++ p ∷ after) → T (precedes before p.name)
ahead s before [] p after asc = asc.1.0
ahead s before (q ∷ l) p after asc =
    strict-and-total.transitive before q.name p.name asc.1.0 (ahead s q.name l p after asc.1.1)

-- what is there is found
there : (s : Shape) (before : List ℕ) (l : List Profile) (p : Profile) (after : List Profile)
    → Ascending s before (l ++ p ∷ after) → profile_named p.name (l ++ p ∷ after) ≡ one_profile p
unfolding profile_named
there s before [] p after asc = rw (is_true (same p.name p.name) (same_refl p.name))
there s before (q ∷ l) p after asc =
    choice (λ r. r ≡ one_profile p) (same p.name q.name)
    (λ t.
    let e = same-sound p.name q.name (passes (same p.name q.name) t) in
    let itself : T (precedes q.name q.name) = subst (λ n. T (precedes q.name n)) e (ahead s q.name l p after asc.1.1) in
    absurd (subst T (strict-and-total.never-itself q.name) itself))
    (λ _. there s q.name l p after asc.1.1)

pub lookup-is-membership : LookupIsMembership
lookup-is-membership s before ps asc name p = (
  found name p ps,
  λ o.
      let e = o.0.there in
      rw (o.1, e) (there s before o.0.before p o.0.after (subst (Ascending s before) e asc)),
)
