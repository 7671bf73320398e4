-- The verdict (specification, "Verdict, first that holds"), and the order of refusals: 35, 30 to 32, 3, 20 to 25.
use Rattle.std.specs.Prelude.{ℕ, Bool, true, not, ◌&&◌, List, [], ◌∷◌, map, eqb, length, if◌then◌else◌, Result, Ok, Err}
use Rattle.refusal.specs.declared.Refusal.{Refusal}
use Rattle.refusal.specs.declared.Refusal.TheVariants.{BadServerSeed}
use Rattle.env.specs.Variable.{value_or}
use Rattle.env.specs.Read.{Reading, says, not_read, reading_of}
use Rattle.names.specs.Name.{is_name, profile_limit}
use Rattle.profile.specs.Profile.{Profile, enabled}
use Rattle.profile.specs.Table.{TableReading, profiles, table_refused, table_of}
use Rattle.password_check.specs.Gives.{seed_length}
use Rattle.signon.specs.declared.Verdict.{Verdict}
use Rattle.signon.specs.declared.Verdict.TheVariants.{Panel, NotKnown, Disabled, Failed, Grant}
use Rattle.signon.specs.Attempt.{Attempt, attempt, is_present, of_profile, GrantRule, grant_rules}

-- a condition and its verdict
pub record Rule : Type 0 where
  pub holds : Bool
  pub verdict : Verdict

infix 4 ◌gives◌
abbrev pub ◌gives◌ : Bool → Verdict → Rule
condition gives v = record { holds = condition; verdict = v }

-- the verdict of the first condition that holds, or else another
unfoldable pub first_of : List Rule → Verdict → Verdict
first_of [] other = other
first_of (r ∷ rs) other = if r.holds then r.verdict else first_of rs other

-- a rule holds for what both USERVARs say and the profile; where one of them is not there it does not
abbrev pub authenticates : Attempt → GrantRule → Bool
authenticates a rule =
    is_present a.client_seed && is_present a.offered
    && of_profile (λ p. rule p (value_or [] a.user) a.server_seed (value_or [] a.client_seed) (value_or [] a.offered)) a.profile

-- "GRANT, if both USERVARs are present and a rule below holds"
unfoldable pub grant_conditions : Attempt → List Rule
grant_conditions a = map (λ rule. authenticates a rule gives Grant) grant_rules

-- "0002, if VAR USER is absent, no valid name, or not in the table; 0003, not enabled;"
unfoldable pub profile_conditions : Attempt → List Rule
profile_conditions a =
    (not (is_present a.user) gives NotKnown)
    ∷ (not (is_name profile_limit (value_or [] a.user)) gives NotKnown)
    ∷ (not (of_profile (λ p. true) a.profile) gives NotKnown)
    ∷ (not (of_profile enabled a.profile) gives Disabled)
    ∷ grant_conditions a

-- "PANEL, if neither USERVAR IBMRSEED nor IBMSUBSPW is present;"
unfoldable pub conditions : Attempt → List Rule
conditions a = (not (is_present a.client_seed) && not (is_present a.offered) gives Panel) ∷ profile_conditions a

-- "else 0004"
unfoldable pub verdict_of : Attempt → Verdict
verdict_of a = first_of (conditions a) Failed

-- an answer by what the table and the payload say
unfoldable pub answer_by : (server_seed : List ℕ) → TableReading → Reading → Result Verdict Refusal
answer_by seed (table_refused e) reading = Err e
answer_by seed (profiles ps) (not_read e) = Err e
answer_by seed (profiles ps) (says first vs) = Ok (verdict_of (attempt seed ps vs))

-- the answer to a server seed, a table and a payload
unfoldable pub answer_of : (server_seed table payload : List ℕ) → Result Verdict Refusal
answer_of seed table payload =
    if not (eqb (length seed) seed_length) then Err BadServerSeed else answer_by seed (table_of table) (reading_of payload)
