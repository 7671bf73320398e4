-- A sign-on as it is found: what the client's variables say (RFC 4777, section 5), and the profile of the user.
use Rattle.std.specs.Prelude.{ℕ, Bool, true, false, not, ◌&&◌, ◌||◌, List, [], ◌∷◌, replicate}
use Rattle.octets.specs.Ascii.{ascii}
use Rattle.octets.specs.Same.{same}
use Rattle.env.specs.Variable.{Variable, VAR, USERVAR, Lookup, absent, present, lookup, value_or}
use Rattle.names.specs.Name.{raised}
use Rattle.profile.specs.Profile.{Profile, des_allowed, stored_des, stored_sha}
use Rattle.profile.specs.Lookup.{ProfileLookup, no_profile, one_profile, profile_named}
use Rattle.password_check.specs.Gives.{gives_clear, gives_des, gives_sha}

-- the names of the three variables, with their kinds VAR and USERVAR
abbrev pub USER : List ℕ
USER = ascii "USER"

abbrev pub IBMRSEED : List ℕ
IBMRSEED = ascii "IBMRSEED"

abbrev pub IBMSUBSPW : List ℕ
IBMSUBSPW = ascii "IBMSUBSPW"

pub record Attempt : Type 0 where
  pub server_seed : List ℕ
  -- USERVAR IBMRSEED, USERVAR IBMSUBSPW and VAR USER
  pub client_seed : Lookup
  pub offered : Lookup
  pub user : Lookup
  -- the profile of the user's name, raised
  pub profile : ProfileLookup

-- the attempt under a server seed, by the variables of a payload and what a look-up of the profile found
unfoldable pub attempt_by : (server_seed : List ℕ) → List Variable → ProfileLookup → Attempt
attempt_by seed vs found = record {
  server_seed = seed;
  client_seed = lookup USERVAR IBMRSEED vs;
  offered = lookup USERVAR IBMSUBSPW vs;
  user = lookup VAR USER vs;
  profile = found;
}

-- and with the profile of the user's name, raised, among those of a table
unfoldable pub attempt : (server_seed : List ℕ) → List Profile → List Variable → Attempt
attempt seed ps vs = attempt_by seed vs (profile_named (raised (value_or [] (lookup VAR USER vs))) ps)

-- whether a variable is there
abbrev pub is_present : Lookup → Bool
is_present absent = false
is_present (present value) = true

-- whether there is a profile, and what is asked of it holds
abbrev pub of_profile : (Profile → Bool) → ProfileLookup → Bool
of_profile test no_profile = false
of_profile test (one_profile p) = test p

-- "Seed empty or eight zeros"
unfoldable pub is_clear : (client_seed : List ℕ) → Bool
is_clear client_seed = same client_seed [] || same client_seed (replicate 8 0)

-- a rule on what is offered for a profile, under two seeds
abbrev pub GrantRule : Type 0
GrantRule = Profile → (name server_seed client_seed offered : List ℕ) → Bool

-- "the value is a clear password whose SHA-1 token is stored"
unfoldable pub is_clear_password : Profile → (name server_seed client_seed offered : List ℕ) → Bool
is_clear_password p name server_seed client_seed offered = is_clear client_seed && gives_clear (stored_sha p) name offered

-- "Seed of 8 other bytes: an 8-byte value is the DES substitute and DES is allowed,
unfoldable pub is_des_substitute : Profile → (name server_seed client_seed offered : List ℕ) → Bool
is_des_substitute p name server_seed client_seed offered =
    not (is_clear client_seed) && (des_allowed p && gives_des (stored_des p) name server_seed client_seed offered)

-- or a 20-byte value is the SHA-1 substitute."
unfoldable pub is_sha_substitute : Profile → (name server_seed client_seed offered : List ℕ) → Bool
is_sha_substitute p name server_seed client_seed offered = not (is_clear client_seed) && gives_sha (stored_sha p) name server_seed client_seed offered

-- the rules by which a sign-on is granted
abbrev pub grant_rules : List GrantRule
grant_rules = is_clear_password ∷ is_des_substitute ∷ is_sha_substitute ∷ []

-- one of some rules holds
unfoldable pub one_holds : List GrantRule → Profile → (name server_seed client_seed offered : List ℕ) → Bool
one_holds [] p name server_seed client_seed offered = false
one_holds (rule ∷ rules) p name server_seed client_seed offered =
    rule p name server_seed client_seed offered || one_holds rules p name server_seed client_seed offered
