-- The profile of a name.
use Rattle.std.specs.Prelude.{ℕ, List, [], ◌∷◌, if◌then◌else◌}
use Rattle.octets.specs.Same.{same}
use Rattle.profile.specs.Profile.{Profile}

-- a look-up by name
pub data ProfileLookup : Type 0 where
  no_profile : ProfileLookup
  one_profile : Profile → ProfileLookup

-- the first profile of a name
unfoldable pub profile_named : List ℕ → List Profile → ProfileLookup
profile_named name [] = no_profile
profile_named name (p ∷ ps) = if same name p.name then one_profile p else profile_named name ps
