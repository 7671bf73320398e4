-- The reason in two parts: what needs no profile, and what a profile gives once it is found. Both are cut from the list
-- of `signon/specs/Reason.antt`.
use Rattle.std.specs.Prelude.{ℕ, List, [], ◌∷◌, if◌then◌else◌, Option, None, Some}
use Rattle.env.specs.Variable.{Variable, VAR, lookup, value_or}
use Rattle.profile.specs.Profile.{Profile}
use Rattle.profile.specs.Lookup.{ProfileLookup, no_profile, one_profile}
use Rattle.signon.specs.declared.Reason.{Reason}
use Rattle.signon.specs.declared.Reason.TheVariants.{NotInTheTable, TokenDiffers}
use Rattle.signon.specs.Attempt.{USER, attempt_by}
use Rattle.signon.specs.Reason.{Cause, first_cause, early_causes, profile_causes}

-- the value of VAR USER, empty where it is absent
abbrev pub user_of : List Variable → List ℕ
user_of vs = value_or [] (lookup VAR USER vs)

-- the reason of the first condition that holds; where none does, the profile is to be looked up
unfoldable pub first_early : List Cause → Option Reason
first_early [] = None
first_early (c ∷ cs) = if c.holds then Some c.reason else first_early cs

-- what needs no profile, and no server seed
unfoldable pub early_of : List Variable → Option Reason
early_of vs = first_early (early_causes (attempt_by [] vs no_profile))

-- what a profile gives once it is found
unfoldable pub reason_found : (server_seed : List ℕ) → List Variable → Profile → Reason
reason_found seed vs p = first_cause (profile_causes (attempt_by seed vs (one_profile p))) TokenDiffers

-- both parts together
abbrev pub whole_of : (server_seed : List ℕ) → List Variable → Option Reason → ProfileLookup → Reason
whole_of seed vs (Some r) found = r
whole_of seed vs None no_profile = NotInTheTable
whole_of seed vs None (one_profile p) = reason_found seed vs p
