-- The verdict's sentence holds, and no two sentences hold at once. Assumes nothing.
use Rattle.std.specs.Prelude.{if◌then◌else◌}
use mathlib.Core.Path.{◌≡◌, refl, sym, ap, subst, ◌∙◌}
use mathlib.Core.Bool.{Bool, true, false, not, ◌&&◌}
use mathlib.Core.List.{List, [], ◌∷◌, ◌++◌}
use mathlib.Core.Logic.{◌⊎◌, inl, inr, ⊎_elim}
use Prim.Native.Nat.{ℕ}
use native.Mathlib.Omega.{arith}
use lib.Dec.{T}
use lib.ListN.{length}
use denote.Floats.{passes, is_true}
use borrow.Author.Tests.{not-true, not-false}
use Rattle.octets.proofs.Choice.{choice}
use Rattle.env.specs.Variable.{Variable, VAR, USERVAR, repeated, Lookup, absent, present, lookup, value_or}
use Rattle.names.specs.Name.{raised, is_name, is_raised_name, profile_limit}
use Rattle.names.proofs.Held.{raised-is-raised}
use Rattle.profile.specs.Profile.{Shape, shape_of, Profile, enabled}
use Rattle.profile.specs.Lookup.{ProfileLookup, no_profile, one_profile, profile_named}
use Rattle.profile.specs.Theorems.{WellFormed, Ascending, Occurs}
use Rattle.profile.proofs.Members.{lookup-is-membership}
use Rattle.profile.proofs.Shapes.{token-lengths}
use Rattle.password_check.specs.Gives.{seed_length}
use Rattle.signon.specs.declared.Verdict.{Verdict}
use Rattle.signon.specs.declared.Verdict.TheVariants.{Panel, NotKnown, Disabled, Failed, Grant}
use Rattle.signon.specs.Attempt.{USER, IBMRSEED, IBMSUBSPW, Attempt, attempt_by, attempt, is_clear_password, is_des_substitute, is_sha_substitute}
use Rattle.signon.specs.Verdict.{first_of, grant_conditions, profile_conditions, conditions, verdict_of}
use Rattle.signon.specs.Theorems.{Told, Named, BySubstitute, ByPassword, Granted, OneTold, NoneNamed, NamedWith, Sentence}
use Rattle.signon.proofs.Lookups.{Finds, finds, told-once, not-both}
use Rattle.signon.proofs.Rules.{clear-says, clear-said, des-says, sha-says, substitute-said}

-- a profile among ascending ones is well-formed
pub formed-in : (s : Shape) (before : List ℕ) (l : List Profile) (p : Profile) (after : List Profile) → Ascending s before (l ++ p ∷ after) → WellFormed s p
formed-in s before [] p after asc = asc.0
formed-in s before (q ∷ l) p after asc = formed-in s q.name l p after asc.1.1

module _ (seed : List ℕ) (eight : length seed ≡ seed_length) (version : ℕ) (ps : List Profile) (asc : Ascending (shape_of version) [] ps) (vs : List Variable) (once : repeated vs ≡ false) where
  formed : (p : Profile) → Occurs p ps → WellFormed (shape_of version) p
  formed p o = formed-in (shape_of version) [] o.before p o.after (subst (Ascending (shape_of version) []) o.there asc)

  -- a profile that is named has a name
  named-good : (user : List ℕ) (p : Profile) → Named ps vs user p → is_name profile_limit user ≡ true
  named-good user p n =
      sym (raised-is-raised profile_limit user)
      ∙ is_true (is_raised_name profile_limit (raised user)) (subst (λ l. T (is_raised_name profile_limit l)) (sym n.name) (formed p n.occurs).name)

  -- there is one user and one named profile
  one-user : (u w : List ℕ) → Told vs VAR USER u → Told vs VAR USER w → u ≡ w
  one-user u w = told-once VAR USER vs u w once

  pub one-profile : (u w : List ℕ) (p q : Profile) → Named ps vs u p → Named ps vs w q → p ≡ q
  one-profile u w p q n m =
      let same = one-user u w n.told m.told in
      let first = (lookup-is-membership (shape_of version) [] ps asc (raised u) p).1 (n.occurs, n.name) in
      let other = (lookup-is-membership (shape_of version) [] ps asc (raised u) q).1 (m.occurs, ap raised same ∙ m.name) in
      cc

  -- what a look-up of a profile says
  abbrev LooksUp : List ℕ → ProfileLookup → Type 0
  LooksUp name no_profile = (p : Profile) → Occurs p ps → name ≡ p.name → ⊥
  LooksUp name (one_profile p) = Occurs p ps × (name ≡ p.name)

  looks-up : (name : List ℕ) (l : ProfileLookup) → profile_named name ps ≡ l → LooksUp name l
  looks-up name no_profile e = λ p o n.
      let found = (lookup-is-membership (shape_of version) [] ps asc name p).1 (o, n) in
      let z : ◌≡◌ {A = ℕ} 0 1 = cc in omega arith
  looks-up name (one_profile p) e = (lookup-is-membership (shape_of version) [] ps asc name p).0 e

  abbrev at : Lookup → Lookup → Lookup → ProfileLookup → Attempt
  at cs of us pr = record { server_seed = seed; client_seed = cs; offered = of; user = us; profile = pr }

  -- an enabled profile
  module _ (told : OneTold vs) (u : List ℕ) (p : Profile) (n : Named ps vs u p) (on : T (enabled p)) where
    abbrev fails : (Granted seed ps vs → ⊥) → Sentence seed ps vs Failed
    fails never = (told, (record { user = u; profile = p; named = n; marked = on }, never))

    -- both USERVARs are there
    module _ (s o : List ℕ) (seed_told : Told vs USERVAR IBMRSEED s) (offered_told : Told vs USERVAR IBMSUBSPW o) where
      good : is_name profile_limit u ≡ true
      good = named-good u p n

      grants : BySubstitute p u seed s o ⊎ ByPassword p u s o → Granted seed ps vs
      grants b = record { user = u; client_seed = s; offered = o; profile = p; seed_told = seed_told; offered_told = offered_told; named = n; enabled = on; by = b }

      -- what is granted is granted by these
      by-these : Granted seed ps vs → BySubstitute p u seed s o ⊎ ByPassword p u s o
      by-these g =
          let eu = one-user g.user u g.named.told n.told in
          let es = told-once USERVAR IBMRSEED vs g.client_seed s once g.seed_told seed_told in
          let eo = told-once USERVAR IBMSUBSPW vs g.offered o once g.offered_told offered_told in
          let ep = one-profile g.user u g.profile p g.named n in
          rw (eu, es, eo, ep) at g.by

      by-rules : Sentence seed ps vs (first_of (grant_conditions (at (present s) (present o) (present u) (one_profile p))) Failed)
      unfolding first_of grant_conditions value_or
      by-rules =
          let f = token-lengths version p (formed p n.occurs) in
          choice (Sentence seed ps vs) (is_clear_password p u seed s o)
          (λ t. grants (inr (clear-says p f.0 f.1 u good seed eight s o (passes (is_clear_password p u seed s o) t))))
          (λ no_clear. choice (Sentence seed ps vs) (is_des_substitute p u seed s o)
          (λ t. grants (inl (des-says p f.0 f.1 u good seed eight s o (passes (is_des_substitute p u seed s o) t))))
          (λ no_des. choice (Sentence seed ps vs) (is_sha_substitute p u seed s o)
          (λ t. grants (inl (sha-says p f.0 f.1 u good seed eight s o (passes (is_sha_substitute p u seed s o) t))))
          (λ no_sha. fails (λ g. ⊎_elim
          (λ b. ⊎_elim (λ d. subst T no_des d) (λ h. subst T no_sha h) (substitute-said p f.0 f.1 u good seed eight s o b))
          (λ b. subst T no_clear (clear-said p f.0 f.1 u good seed eight s o b))
          (by-these g)))))

    one-is-missing : (cs of : Lookup) → Finds vs USERVAR IBMRSEED cs → Finds vs USERVAR IBMSUBSPW of
        → Sentence seed ps vs (first_of (grant_conditions (at cs of (present u) (one_profile p))) Failed)
    unfolding first_of grant_conditions
    one-is-missing absent of f g = fails (λ h. not-both USERVAR IBMRSEED vs h.client_seed h.seed_told f)
    one-is-missing (present s) absent f g = fails (λ h. not-both USERVAR IBMSUBSPW vs h.offered h.offered_told g)
    one-is-missing (present s) (present o) f g = by-rules s o f g

  -- one of the USERVARs is there
  module _ (told : OneTold vs) (cs of : Lookup) (f : Finds vs USERVAR IBMRSEED cs) (g : Finds vs USERVAR IBMSUBSPW of) where
    -- no valid name
    unnamed : (u : List ℕ) → Told vs VAR USER u → not (is_name profile_limit u) ≡ true → Sentence seed ps vs NotKnown
    unnamed u t bad = (
      told,
      λ w p n.
          let good : is_name profile_limit u ≡ true = ap (is_name profile_limit) (one-user u w t n.told) ∙ named-good w p n in
          let z : ◌≡◌ {A = Bool} true false = sym good ∙ not-true (is_name profile_limit u) bad in
          subst T z tt,
    )

    by-user : (us : Lookup) (pr : ProfileLookup) → Finds vs VAR USER us → LooksUp (raised (value_or [] us)) pr
        → Sentence seed ps vs (first_of (profile_conditions (at cs of us pr)) Failed)
    unfolding first_of profile_conditions value_or
    by-user absent pr h l = (told, λ w p n. not-both VAR USER vs w n.told h)
    by-user (present u) no_profile h l =
        choice (Sentence seed ps vs) (not (is_name profile_limit u)) (unnamed u h)
        (λ _. (told, λ w p n. l p n.occurs (ap raised (one-user u w h n.told) ∙ n.name)))
    by-user (present u) (one_profile p) h l =
        let n : Named ps vs u p = record { told = h; occurs = l.0; name = l.1 } in
        choice (Sentence seed ps vs) (not (is_name profile_limit u)) (unnamed u h)
        (λ _. choice (Sentence seed ps vs) (not (enabled p))
        (λ off. (told, record { user = u; profile = p; named = n; marked = not-true (enabled p) off }))
        (λ on. one-is-missing told u p n (passes (enabled p) (not-false (enabled p) on)) cs of f g))

  sound-at : (cs of us : Lookup) (pr : ProfileLookup) → Finds vs USERVAR IBMRSEED cs → Finds vs USERVAR IBMSUBSPW of → Finds vs VAR USER us
      → LooksUp (raised (value_or [] us)) pr → Sentence seed ps vs (verdict_of (at cs of us pr))
  unfolding verdict_of conditions first_of
  sound-at absent absent us pr f g h l = (f, g)
  sound-at absent (present o) us pr f g h l = by-user (inr (o, g)) absent (present o) f g us pr h l
  sound-at (present s) of us pr f g h l = by-user (inl (s, f)) (present s) of f g us pr h l

  pub sound : Sentence seed ps vs (verdict_of (attempt seed ps vs))
  unfolding attempt_by attempt
  sound =
      let us = lookup VAR USER vs in
      sound-at (lookup USERVAR IBMRSEED vs) (lookup USERVAR IBMSUBSPW vs) us (profile_named (raised (value_or [] us)) ps)
      (finds USERVAR IBMRSEED vs) (finds USERVAR IBMSUBSPW vs) (finds VAR USER vs) (looks-up (raised (value_or [] us)) (profile_named (raised (value_or [] us)) ps) refl)
