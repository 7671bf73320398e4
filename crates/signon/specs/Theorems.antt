-- What is proved of verdicts: each is given exactly where its sentence holds. The sentences are those of the owner's
-- demand 2 and of the specification, and say nothing of how a verdict is found. The proofs are in `proofs/`.
use Rattle.std.specs.Prelude.{◌≡◌, false, List, [], ◌↔◌, ◌⊎◌, ℕ, T, length, replicate, Ok}
use Rattle.octets.specs.Bytes.{Bytes}
use Rattle.env.specs.Variable.{undefined, defined, Variable, VAR, USERVAR}
use Rattle.env.specs.Theorems as Env
use Rattle.env.specs.Read as Read
use Rattle.names.specs.Name.{raised}
use Rattle.profile.specs.Profile as Profiles
use Rattle.profile.specs.Profile.{Profile, des_allowed, stored_des, stored_sha}
use Rattle.profile.specs.Table.{profiles, table_of}
use Rattle.profile.specs.Theorems.{Occurs}
use Rattle.password_sha.specs.Sha.{is_password, PW-token, PW-SUB}
use Rattle.password_check.specs.Gives.{seed_length, des_substitute_of}
use Rattle.signon.specs.declared.Verdict.{Verdict}
use Rattle.signon.specs.declared.Verdict.TheVariants.{Panel, NotKnown, Disabled, Failed, Grant}
use Rattle.signon.specs.Attempt.{USER, IBMRSEED, IBMSUBSPW}
use Rattle.signon.specs.Verdict.{answer_of}

-- a variable of a kind and name, defined with a value, somewhere among some
pub record Told (vs : List Variable) (kind : ℕ) (name value : List ℕ) : Type 0 where
  pub occurs : Env.Occurs kind name vs
  pub says : occurs.it.value ≡ defined value

-- none of a kind and name: "treat an undefined variable as absent" (change request No. 3)
abbrev pub Untold : List Variable → (kind : ℕ) (name : List ℕ) → Type 0
Untold vs kind name = (occurs : Env.Occurs kind name vs) → occurs.it.value ≡ undefined

-- "the named profile": one of the table's, whose name is the value of VAR USER, raised
pub record Named (ps : List Profile) (vs : List Variable) (user : List ℕ) (p : Profile) : Type 0 where
  pub told : Told vs VAR USER user
  pub occurs : Occurs p ps
  pub name : raised user ≡ p.name

-- an all-zero client seed
abbrev pub zero_seed : List ℕ
zero_seed = replicate seed_length 0

-- "its token, of a kind it allows, gives the offered substitute under this session's two seeds, the client's not zero"
pub record BySubstitute (p : Profile) (name server_seed client_seed offered : List ℕ) : Type 0 where
  pub seed : length client_seed ≡ seed_length
  pub not_zero : client_seed ≡ zero_seed → ⊥
  pub gives : (T (des_allowed p) × (offered ≡ des_substitute_of (stored_des p) name server_seed client_seed))
      ⊎ (offered ≡ PW-SUB (stored_sha p) server_seed client_seed name)

-- "with that seed empty or zero, a clear password gives its stored token"
pub record ByPassword (p : Profile) (name client_seed offered : List ℕ) : Type 0 where
  pub seed : (client_seed ≡ []) ⊎ (client_seed ≡ zero_seed)
  pub password : T (is_password offered)
  pub gives : PW-token name offered ≡ stored_sha p

-- "Sign-on is granted exactly when the named profile is enabled and either its token .. or .. a clear password .."
pub record Granted (server_seed : List ℕ) (ps : List Profile) (vs : List Variable) : Type 0 where
  pub user : List ℕ
  pub client_seed : List ℕ
  pub offered : List ℕ
  pub profile : Profile
  pub seed_told : Told vs USERVAR IBMRSEED client_seed
  pub offered_told : Told vs USERVAR IBMSUBSPW offered
  pub named : Named ps vs user profile
  pub enabled : T (Profiles.enabled profile)
  pub by : BySubstitute profile user server_seed client_seed offered ⊎ ByPassword profile user client_seed offered

-- one of the two USERVARs is there
abbrev pub OneTold : List Variable → Type 0
OneTold vs = ((value : List ℕ) × Told vs USERVAR IBMRSEED value) ⊎ ((value : List ℕ) × Told vs USERVAR IBMSUBSPW value)

-- no profile of the table is named
abbrev pub NoneNamed : List Profile → List Variable → Type 0
NoneNamed ps vs = (user : List ℕ) (p : Profile) → Named ps vs user p → ⊥

-- one is, with its mark
pub record NamedWith (mark : Profile → Type 0) (ps : List Profile) (vs : List Variable) : Type 0 where
  pub user : List ℕ
  pub profile : Profile
  pub named : Named ps vs user profile
  pub marked : mark profile

-- The sentence of each verdict. "PANEL, if neither USERVAR is present; 0002, if VAR USER is absent, no valid name, or
-- not in the table; 0003, not enabled; GRANT, if ..; else 0004."
abbrev pub Sentence : List ℕ → List Profile → List Variable → Verdict → Type 0
Sentence seed ps vs Panel = Untold vs USERVAR IBMRSEED × Untold vs USERVAR IBMSUBSPW
Sentence seed ps vs NotKnown = OneTold vs × NoneNamed ps vs
Sentence seed ps vs Disabled = OneTold vs × NamedWith (λ p. Profiles.enabled p ≡ false) ps vs
Sentence seed ps vs Failed = OneTold vs × (NamedWith (λ p. T (Profiles.enabled p)) ps vs × (Granted seed ps vs → ⊥))
Sentence seed ps vs Grant = Granted seed ps vs

-- a server seed of eight bytes, a table of bytes that reads as profiles, and a payload that reads as variables
pub record Session (seed table payload : List ℕ) (ps : List Profile) (vs : List Variable) : Type 0 where
  pub seed_of_eight : length seed ≡ seed_length
  pub table_read : table_of table ≡ profiles ps
  pub first : ℕ
  pub payload_read : Read.reading_of payload ≡ Read.says first vs

-- A verdict is given exactly where its sentence holds; so Grant exactly where demand 2 says.
abbrev pub VerdictIsItsSentence : Type 0
VerdictIsItsSentence =
    (seed table payload : List ℕ) (ps : List Profile) (vs : List Variable) → Bytes table → Session seed table payload ps vs
    → (v : Verdict) → (answer_of seed table payload ≡ Ok v) ↔ Sentence seed ps vs v

-- what is read where a verdict is given
pub record Readable (seed table payload : List ℕ) : Type 0 where
  pub ps : List Profile
  pub vs : List Variable
  pub read : Session seed table payload ps vs

-- No verdict, and so no Grant, is given where something is refused.
abbrev pub NoVerdictIfRefused : Type 0
NoVerdictIfRefused = (seed table payload : List ℕ) (v : Verdict) → answer_of seed table payload ≡ Ok v → Readable seed table payload

-- Whatever is offered, a profile that is not enabled or not in the table is not granted: where Grant is given, every
-- profile that the user names, and there is one, is in the table and enabled.
pub record InTableAndEnabled (ps : List Profile) (vs : List Variable) : Type 0 where
  pub one : NamedWith (λ p. T (Profiles.enabled p)) ps vs
  pub every : (user : List ℕ) (p : Profile) → Named ps vs user p → T (Profiles.enabled p)

abbrev pub OnlyEnabledGranted : Type 0
OnlyEnabledGranted =
    (seed table payload : List ℕ) (ps : List Profile) (vs : List Variable) → Bytes table → Session seed table payload ps vs
    → answer_of seed table payload ≡ Ok Grant → InTableAndEnabled ps vs
