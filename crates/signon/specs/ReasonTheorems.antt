-- What is proved of reasons (change request No. 1): the one that is given is the first that holds, it belongs to the
-- verdict that is given, it is "granted" exactly where demand 2 grants, and undefined variables decide nothing. The
-- proofs are in `proofs/Reasons.antt`, `proofs/Conditions.antt` and `proofs/Undefined.antt`.
use Rattle.std.specs.Prelude.{◌≡◌, true, false, List, [], ◌∷◌, ◌++◌, map, ◌↔◌, ◌⊎◌, ℕ, T, length, Ok}
use Rattle.octets.specs.Ascii.{ascii}
use Rattle.octets.specs.Bytes.{Bytes}
use Rattle.env.specs.Variable.{Variable, defined_ones}
use Rattle.env.specs.Read.{reading_of, says}
use Rattle.env.specs.Write.{payload_of}
use Rattle.names.specs.Name.{is_name, profile_limit}
use Rattle.profile.specs.Profile.{Profile, des_allowed, stored_des, stored_sha}
use Rattle.password_sha.specs.Sha.{is_password, PW-token, PW-SUB}
use Rattle.password_check.specs.Gives.{des_length, sha_length, seed_length, des_substitute_of}
use Rattle.signon.specs.declared.Verdict.TheVariants.{Grant}
use Rattle.signon.specs.declared.Reason.{Reason}
use Rattle.signon.specs.declared.Reason.TheVariants.{Granted as IsGranted}
use Rattle.signon.specs.Attempt.{Attempt, attempt}
use Rattle.signon.specs.Verdict.{answer_of}
use Rattle.signon.specs.Theorems.{zero_seed, Granted, Session}
use Rattle.signon.specs.Reason.{words_of, Cause, ◌because◌, bad_seed_length, bad_substitute_length, des_not_allowed, clear_password_malformed, token_gives}
use Rattle.signon.specs.Reason.{causes, explain_of, answer_for}

-- no condition of some holds
abbrev pub NoneHolds : List Cause → Type 0
NoneHolds [] = Unit {0}
NoneHolds (c ∷ cs) = (c.holds ≡ false) × NoneHolds cs

-- a reason is the first of some: its condition holds, and none before it does
pub record IsFirst (cs : List Cause) (r : Reason) : Type 0 where
  pub before : List Cause
  pub after : List Cause
  pub cut : cs ≡ before ++ (true because r) ∷ after
  pub none_before : NoneHolds before

-- "The reason given is proved to be the first that holds in that order": it is given exactly where it is.
abbrev pub ReasonIsFirst : Type 0
ReasonIsFirst =
    (seed table payload : List ℕ) (ps : List Profile) (vs : List Variable) → Session seed table payload ps vs
    → (r : Reason) → (explain_of seed table payload ≡ Ok r) ↔ IsFirst (causes (attempt seed ps vs)) r

-- One of them always holds.
abbrev pub SomeCauseHolds : Type 0
SomeCauseHolds = (a : Attempt) → (r : Reason) × IsFirst (causes a) r

-- "each reason belongs to one verdict only", and "Refusals: those of the verdict, in its order": verdict and reason
-- agree on every input.
abbrev pub VerdictOfItsReason : Type 0
VerdictOfItsReason = (seed table payload : List ℕ) → answer_of seed table payload ≡ answer_for (explain_of seed table payload)

-- "granted" is given exactly where GRANT is, and so exactly where demand 2's sentence holds.
pub record GrantedExactly : Type 0 where
  pub grant : (seed table payload : List ℕ) → (explain_of seed table payload ≡ Ok IsGranted) ↔ (answer_of seed table payload ≡ Ok Grant)
  pub sentence : (seed table payload : List ℕ) (ps : List Profile) (vs : List Variable) → Bytes table → Session seed table payload ps vs
      → (explain_of seed table payload ≡ Ok IsGranted) ↔ Granted seed ps vs

-- "verdicts and reasons treat an undefined variable as absent" (change request No. 3): those of a payload that is read
-- are those of it written without its undefined variables.
abbrev pub UndefinedIsAbsent : Type 0
UndefinedIsAbsent =
    (payload : List ℕ) (first : ℕ) (vs : List Variable) → reading_of payload ≡ says first vs
    → let without = payload_of first (defined_ones vs) in
    (seed table : List ℕ) → (answer_of seed table payload ≡ answer_of seed table without) × (explain_of seed table payload ≡ explain_of seed table without)

-- a seed that is clear, and one that isn't
abbrev pub Clear : List ℕ → Type 0
Clear seed = (seed ≡ []) ⊎ (seed ≡ zero_seed)

abbrev pub NotClear : List ℕ → Type 0
NotClear seed = Clear seed → ⊥

-- What "token differs" says of a profile with tokens of their lengths, a name and two seeds: of a clear password, that
-- its token is not the stored one; of 8 bytes that they are not the DES substitute; of 20 that they are not SHA-1's.
pub record TokenSays (p : Profile) (name server_seed client_seed offered : List ℕ) : Type 0 where
  pub clear : Clear client_seed → T (is_password offered)
      → (token_gives p name server_seed client_seed offered ≡ false) ↔ (PW-token name offered ≡ stored_sha p → ⊥)
  pub des : NotClear client_seed → length client_seed ≡ seed_length → length offered ≡ des_length
      → (token_gives p name server_seed client_seed offered ≡ false) ↔ (offered ≡ des_substitute_of (stored_des p) name server_seed client_seed → ⊥)
  pub sha : NotClear client_seed → length client_seed ≡ seed_length → length offered ≡ sha_length
      → (token_gives p name server_seed client_seed offered ≡ false) ↔ (offered ≡ PW-SUB (stored_sha p) server_seed client_seed name → ⊥)

-- "Substitute length, and DES not allowed for 8 bytes, need a seed that isn't clear, clear password malformed one that
-- is": each condition that is more than a look at one thing, beside its sentence.
pub record ConditionsSay : Type 0 where
  pub seed : (client_seed : List ℕ) → T (bad_seed_length client_seed) ↔ ((length client_seed ≡ 0 → ⊥) × (length client_seed ≡ 8 → ⊥))
  pub substitute : (client_seed offered : List ℕ)
      → T (bad_substitute_length client_seed offered) ↔ (NotClear client_seed × ((length offered ≡ 8 → ⊥) × (length offered ≡ 20 → ⊥)))
  pub des : (p : Profile) (client_seed offered : List ℕ)
      → T (des_not_allowed p client_seed offered) ↔ (NotClear client_seed × ((length offered ≡ 8) × (des_allowed p ≡ false)))
  pub clear : (client_seed offered : List ℕ) → T (clear_password_malformed client_seed offered) ↔ (Clear client_seed × (is_password offered ≡ false))
  pub token : (p : Profile) → length (stored_des p) ≡ des_length → length (stored_sha p) ≡ sha_length
      → (name server_seed client_seed offered : List ℕ) → is_name profile_limit name ≡ true → length server_seed ≡ seed_length
      → TokenSays p name server_seed client_seed offered

-- texts with a semicolon and a blank between them
unfoldable pub joined : List (List ℕ) → List ℕ
joined [] = []
joined (t ∷ []) = t
joined (t ∷ u ∷ ts) = t ++ ascii "; " ++ joined (u ∷ ts)

-- The reasons in their order are the request's text.
abbrev pub WordsInOrder : Type 0
WordsInOrder =
    (a : Attempt)
    → joined (map (λ (c : Cause). words_of c.reason) (causes a))
    ≡ ascii "panel asked for; no USER; bad name; not in the table; disabled; seed variable missing; substitute missing; seed length; substitute length; DES not allowed; clear password malformed; token differs; granted"
