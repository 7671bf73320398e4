-- What each test of the code says of the reason, and that the two parts make the whole. Assumes nothing.
use Rattle.std.specs.Prelude.{if◌then◌else◌, Option, None, Some}
use mathlib.Core.Path.{◌≡◌, refl, sym, ap, ◌∙◌}
use mathlib.Core.Bool.{true, false, not}
use mathlib.Core.List.{List}
use Prim.Native.Nat.{ℕ}
use Rattle.octets.proofs.Choice.{choice₂}
use Rattle.env.specs.Variable.{Variable, VAR, USERVAR, Lookup, absent, present, lookup, value_or}
use Rattle.names.specs.Name.{is_name, profile_limit}
use Rattle.profile.specs.Profile.{Profile, enabled}
use Rattle.profile.specs.Lookup.{ProfileLookup, no_profile, one_profile}
use Rattle.signon.specs.declared.Reason.{Reason}
use Rattle.signon.specs.declared.Reason.TheVariants.{PanelAskedFor, NoUser, BadName, Disabled, SeedVariableMissing, SubstituteMissing}
use Rattle.signon.specs.Attempt.{USER, IBMRSEED, IBMSUBSPW, attempt_by, is_present}
use Rattle.signon.specs.Reason.{first_cause, early_causes, offer_causes, profile_causes, causes, reason_of, reason_offered, is_granted}
use Rattle.signon_attempt.specs.Parts.{user_of, first_early, early_of, reason_found, whole_of}
use Rattle.signon_attempt.specs.Internal.Told.{is_panel}

module _ (vs : List Variable) where
  pub panel : is_panel vs ≡ true → Some PanelAskedFor ≡ early_of vs
  unfolding early_of first_early early_causes attempt_by
  panel e = rw e

  module _ (e : is_panel vs ≡ false) where
    pub no-user : lookup VAR USER vs ≡ absent → Some NoUser ≡ early_of vs
    unfolding early_of first_early early_causes attempt_by
    no-user n = rw (e, n)

    module _ (user : List ℕ) (u : lookup VAR USER vs ≡ present user) where
      pub bad-name : is_name profile_limit user ≡ false → Some BadName ≡ early_of vs
      unfolding early_of first_early early_causes attempt_by value_or
      bad-name n = rw (e, u, n)

      pub good-name : is_name profile_limit user ≡ true → None ≡ early_of vs
      unfolding early_of first_early early_causes attempt_by value_or
      good-name n = rw (e, u, n)

module _ (seed : List ℕ) (vs : List Variable) where
  -- the two parts make the whole
  pub parts : (found : ProfileLookup) → whole_of seed vs (early_of vs) found ≡ reason_of (attempt_by seed vs found)
  unfolding early_of first_early early_causes reason_found reason_of causes attempt_by first_cause
  parts no_profile =
      let Same : Option Reason → Reason → Type 0 = λ e r. whole_of seed vs e no_profile ≡ r in
      choice₂ Same (is_panel vs) (λ _. refl)
      (λ _. choice₂ Same (not (is_present (lookup VAR USER vs))) (λ _. refl) (λ _. choice₂ Same (not (is_name profile_limit (user_of vs))) (λ _. refl) (λ _. refl)))
  parts (one_profile p) =
      let Same : Option Reason → Reason → Type 0 = λ e r. whole_of seed vs e (one_profile p) ≡ r in
      choice₂ Same (is_panel vs) (λ _. refl)
      (λ _. choice₂ Same (not (is_present (lookup VAR USER vs))) (λ _. refl) (λ _. choice₂ Same (not (is_name profile_limit (user_of vs))) (λ _. refl) (λ _. refl)))

  module _ (p : Profile) where
    pub off : enabled p ≡ false → Disabled ≡ reason_found seed vs p
    unfolding reason_found profile_causes attempt_by first_cause
    off e = rw e

    module _ (on : enabled p ≡ true) where
      pub no-seed : lookup USERVAR IBMRSEED vs ≡ absent → SeedVariableMissing ≡ reason_found seed vs p
      unfolding reason_found profile_causes offer_causes attempt_by first_cause
      no-seed e = rw (on, e)

      module _ (client_seed : List ℕ) (s : lookup USERVAR IBMRSEED vs ≡ present client_seed) where
        pub no-offer : lookup USERVAR IBMSUBSPW vs ≡ absent → SubstituteMissing ≡ reason_found seed vs p
        unfolding reason_found profile_causes offer_causes attempt_by first_cause
        no-offer e = rw (on, s, e)

        pub by-offer : (offered : List ℕ) → lookup USERVAR IBMSUBSPW vs ≡ present offered
            → reason_offered p (user_of vs) seed client_seed offered ≡ reason_found seed vs p
        unfolding reason_offered reason_found profile_causes offer_causes attempt_by first_cause is_granted value_or
        by-offer offered o = rw (on, s, o)
