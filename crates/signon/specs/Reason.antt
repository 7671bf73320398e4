-- Why a sign-on is answered as it is (change request No. 1): "one reason: panel asked for; no USER; bad name; not in the
-- table; disabled; seed variable missing; substitute missing; seed length; substitute length; DES not allowed; clear
-- password malformed; token differs; granted. The reason given is .. the first that holds in that order, and each
-- reason belongs to one verdict only." Each condition is stated by itself: a later one may hold where an earlier one
-- does.
use Rattle.std.specs.Prelude.{ℕ, Bool, true, not, ◌&&◌, ◌||◌, List, [], ◌∷◌, ◌++◌, eqb, length, if◌then◌else◌, Result, Ok, Err}
use Rattle.octets.specs.Ascii.{ascii}
use Rattle.refusal.specs.declared.Refusal.{Refusal}
use Rattle.refusal.specs.declared.Refusal.TheVariants.{BadServerSeed}
use Rattle.env.specs.Variable.{present, value_or}
use Rattle.env.specs.Read.{Reading, says, not_read, reading_of}
use Rattle.names.specs.Name.{is_name, profile_limit}
use Rattle.profile.specs.Profile.{Profile, enabled, des_allowed, stored_des, stored_sha}
use Rattle.profile.specs.Lookup.{one_profile}
use Rattle.profile.specs.Table.{TableReading, profiles, table_refused, table_of}
use Rattle.password_sha.specs.Sha.{is_password}
use Rattle.password_check.specs.Gives.{des_length, sha_length, seed_length, gives_clear, gives_des, gives_sha}
use Rattle.signon.specs.declared.Verdict.{Verdict}
use Rattle.signon.specs.declared.Verdict.TheVariants.{Panel, NotKnown, Disabled as NotEnabled, Failed, Grant}
use Rattle.signon.specs.declared.Reason.{Reason}
use Rattle.signon.specs.declared.Reason.TheVariants.{PanelAskedFor, NoUser, BadName, NotInTheTable, Disabled, SeedVariableMissing}
use Rattle.signon.specs.declared.Reason.TheVariants.{SubstituteMissing, SeedLength, SubstituteLength, DesNotAllowed}
use Rattle.signon.specs.declared.Reason.TheVariants.{ClearPasswordMalformed, TokenDiffers, Granted}
use Rattle.signon.specs.Attempt.{Attempt, attempt, is_present, of_profile, is_clear, grant_rules, one_holds}

-- the reason in the request's words
abbrev pub words_of : Reason → List ℕ
words_of PanelAskedFor = ascii "panel asked for"
words_of NoUser = ascii "no USER"
words_of BadName = ascii "bad name"
words_of NotInTheTable = ascii "not in the table"
words_of Disabled = ascii "disabled"
words_of SeedVariableMissing = ascii "seed variable missing"
words_of SubstituteMissing = ascii "substitute missing"
words_of SeedLength = ascii "seed length"
words_of SubstituteLength = ascii "substitute length"
words_of DesNotAllowed = ascii "DES not allowed"
words_of ClearPasswordMalformed = ascii "clear password malformed"
words_of TokenDiffers = ascii "token differs"
words_of Granted = ascii "granted"

-- the one verdict that it belongs to
abbrev pub verdict_for : Reason → Verdict
verdict_for PanelAskedFor = Panel
verdict_for NoUser = NotKnown
verdict_for BadName = NotKnown
verdict_for NotInTheTable = NotKnown
verdict_for Disabled = NotEnabled
verdict_for SeedVariableMissing = Failed
verdict_for SubstituteMissing = Failed
verdict_for SeedLength = Failed
verdict_for SubstituteLength = Failed
verdict_for DesNotAllowed = Failed
verdict_for ClearPasswordMalformed = Failed
verdict_for TokenDiffers = Failed
verdict_for Granted = Grant

-- a condition and its reason
pub record Cause : Type 0 where
  pub holds : Bool
  pub reason : Reason

infix 4 ◌because◌
abbrev pub ◌because◌ : Bool → Reason → Cause
condition because r = record { holds = condition; reason = r }

-- the reason of the first condition that holds, or else another
unfoldable pub first_cause : List Cause → Reason → Reason
first_cause [] other = other
first_cause (c ∷ cs) other = if c.holds then c.reason else first_cause cs other

-- "seed length": neither none nor eight bytes
unfoldable pub bad_seed_length : (client_seed : List ℕ) → Bool
bad_seed_length client_seed = not (eqb (length client_seed) 0 || eqb (length client_seed) seed_length)

-- "substitute length": under a seed that isn't clear, neither eight nor twenty bytes
unfoldable pub bad_substitute_length : (client_seed offered : List ℕ) → Bool
bad_substitute_length client_seed offered =
    not (is_clear client_seed) && not (eqb (length offered) des_length || eqb (length offered) sha_length)

-- "DES not allowed for 8 bytes", under a seed that isn't clear
unfoldable pub des_not_allowed : Profile → (client_seed offered : List ℕ) → Bool
des_not_allowed p client_seed offered = not (is_clear client_seed) && (eqb (length offered) des_length && not (des_allowed p))

-- "clear password malformed", under a seed that is clear
unfoldable pub clear_password_malformed : (client_seed offered : List ℕ) → Bool
clear_password_malformed client_seed offered = is_clear client_seed && not (is_password offered)

-- the token that the offered value calls for gives it: SHA-1's of a clear password, DES's of 8 bytes, else SHA-1's
unfoldable pub token_gives : Profile → (name server_seed client_seed offered : List ℕ) → Bool
token_gives p name server_seed client_seed offered =
    if is_clear client_seed then gives_clear (stored_sha p) name offered
    else if eqb (length offered) des_length then gives_des (stored_des p) name server_seed client_seed offered
    else gives_sha (stored_sha p) name server_seed client_seed offered

-- what the three variables say, empty where they are absent
abbrev pub user_in : Attempt → List ℕ
user_in a = value_or [] a.user

abbrev pub seed_in : Attempt → List ℕ
seed_in a = value_or [] a.client_seed

abbrev pub offer_in : Attempt → List ℕ
offer_in a = value_or [] a.offered

-- "granted": both USERVARs are there, and one of the rules for GRANT holds
unfoldable pub is_granted : Attempt → Bool
is_granted a =
    is_present a.client_seed && is_present a.offered
    && of_profile (λ p. one_holds grant_rules p (user_in a) a.server_seed (seed_in a) (offer_in a)) a.profile

-- the reasons that need no profile
unfoldable pub early_causes : Attempt → List Cause
early_causes a =
    (not (is_present a.client_seed) && not (is_present a.offered) because PanelAskedFor)
    ∷ (not (is_present a.user) because NoUser)
    ∷ (not (is_name profile_limit (user_in a)) because BadName)
    ∷ []

-- those that what is offered may give
unfoldable pub offer_causes : Attempt → List Cause
offer_causes a =
    (not (is_present a.client_seed) because SeedVariableMissing)
    ∷ (not (is_present a.offered) because SubstituteMissing)
    ∷ (bad_seed_length (seed_in a) because SeedLength)
    ∷ (bad_substitute_length (seed_in a) (offer_in a) because SubstituteLength)
    ∷ (of_profile (λ p. des_not_allowed p (seed_in a) (offer_in a)) a.profile because DesNotAllowed)
    ∷ (clear_password_malformed (seed_in a) (offer_in a) because ClearPasswordMalformed)
    ∷ (of_profile (λ p. not (token_gives p (user_in a) a.server_seed (seed_in a) (offer_in a))) a.profile because TokenDiffers)
    ∷ (is_granted a because Granted)
    ∷ []

-- those that a profile may give, once it is found
unfoldable pub profile_causes : Attempt → List Cause
profile_causes a = (of_profile (λ p. not (enabled p)) a.profile because Disabled) ∷ offer_causes a

-- all of them, in the request's order
unfoldable pub causes : Attempt → List Cause
causes a = early_causes a ++ (not (of_profile (λ p. true) a.profile) because NotInTheTable) ∷ profile_causes a

-- the reason that a found profile, a user's name, both seeds and what is offered give
unfoldable pub reason_offered : Profile → (name server_seed client_seed offered : List ℕ) → Reason
reason_offered p name server_seed client_seed offered =
    first_cause
    (offer_causes
    (record { server_seed = server_seed; client_seed = present client_seed; offered = present offered; user = present name; profile = one_profile p }))
    TokenDiffers

-- the reason; one of them always holds, so none else is ever given
unfoldable pub reason_of : Attempt → Reason
reason_of a = first_cause (causes a) TokenDiffers

-- an explanation by what the table and the payload say
unfoldable pub explain_by : (server_seed : List ℕ) → TableReading → Reading → Result Reason Refusal
explain_by seed (table_refused e) reading = Err e
explain_by seed (profiles ps) (not_read e) = Err e
explain_by seed (profiles ps) (says first vs) = Ok (reason_of (attempt seed ps vs))

-- "Refusals: those of the verdict, in its order."
unfoldable pub explain_of : (server_seed table payload : List ℕ) → Result Reason Refusal
explain_of seed table payload =
    if not (eqb (length seed) seed_length) then Err BadServerSeed else explain_by seed (table_of table) (reading_of payload)

-- the answer that an explanation belongs to
abbrev pub answer_for : Result Reason Refusal → Result Verdict Refusal
answer_for (Ok r) = Ok (verdict_for r)
answer_for (Err e) = Err e
