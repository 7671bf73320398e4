-- Who signs on with the name and the password that the token maker was given is granted: the theorem `MadeSignsOn`. The
-- stored record is that of the made profile alone, so its tokens are those that the substitute was computed from.
-- Assumes nothing.
use Rattle.std.specs.Prelude.{Result, Ok}
use Rattle.refusal.specs.declared.Refusal.{Refusal}
use mathlib.Core.Path.{◌≡◌, refl, sym, ap, subst, ◌∙◌}
use mathlib.Core.Bool.{Bool, true, not}
use mathlib.Core.List.{List, [], ◌∷◌, ◌++◌}
use mathlib.Core.Logic.{inl, inr, ⊎_elim}
use Prim.Native.Nat.{ℕ, ◌<◌, ◌^◌}
use native.Mathlib.Nat.{mod-eq_of_lt}
use native.Mathlib.Omega.{arith}
use denote.Floats.{passes}
use borrow.Author.Tests.{not-false}
use mir.Facts.{yes_and}
use lib.Dec.{T, eqb→eq}
use Rattle.octets.specs.Lent.{Outcome}
use Rattle.octets.proofs.Choice.{choice}
use Rattle.refusal.proofs.Writing.{not-wrote}
use Rattle.words.specs.BigEndian.{number, bytes}
use Rattle.words.proofs.BigEndian.{length-bytes, number-bytes}
use Rattle.names.specs.Name.{is_name, profile_limit}
use Rattle.names.specs.Ebcdic.{ebcdic_of}
use Rattle.profile.specs.Profile.{shape_of, Profile, des_allowed, record_bytes}
use Rattle.profile.specs.Profile as Profiles
use Rattle.profile.specs.Table.{table_version, version_of, shape_in, profile_at}
use Rattle.profile.specs.Theorems.{WellFormed, Ascending, Occurs}
use Rattle.profile.proofs.Fronts.{fronts}
use Rattle.profile.proofs.Shapes.{short}
use Rattle.profile.proofs.Backs.{tables-written-back}
use Rattle.profile_maker.specs.Made.{Making, making, has_des_token, des_token_bytes, made_profile}
use Rattle.profile_maker.specs.Promise.{make_into}
use Rattle.profile_maker.proofs.Goodness.{made-records-are-good}
use Rattle.password_des.specs.Des.{PW-TOKEN, PW-SUB}
use Rattle.password_des.specs.Answer as Des
use Rattle.password_sha.specs.Sha as Sha
use Rattle.password_sha.specs.Answer as ShaAnswer
use Rattle.password_check.specs.Gives.{des_substitute_of}
use Rattle.password_check.proofs.Own.{number-token}
use Rattle.signon.specs.declared.Verdict.TheVariants.{Grant}
use Rattle.signon.specs.Theorems.{zero_seed, Granted, Session}
use Rattle.signon.proofs.Sentences.{formed-in}
use Rattle.signon.proofs.Verdicts.{verdict-is-its-sentence}
use Rattle.claims.specs.MadeSignsOn.{MadeOf, Stored, BySha, ByDes, MadeSignsOn}

-- a seed of eight bytes is its number again
number-seed : (seed : ℕ) → seed < 2 ^ 64 → number (bytes 8 seed) ≡ seed
number-seed seed small = number-bytes 8 seed ∙ mod-eq_of_lt small

-- profiles with one record are one profile
same-record : (v : ℕ) (p q : Profile) → WellFormed (shape_of v) p → WellFormed (shape_of v) q → record_bytes p ≡ record_bytes q → p ≡ q
same-record v p q a b e =
    let front : List ℕ → Profile = λ l. profile_at (shape_of v) (l ++ []) in
    sym (fronts (shape_of v) p [] a (short v)).says ∙ ap front e ∙ (fronts (shape_of v) q [] b (short v)).says

-- where the token maker wrote, the name and the password are good
good : (m : Making) (out : List ℕ) (n : ℕ) → (make_into m out).answer ≡ Ok n
    → (is_name profile_limit m.name ≡ true) × (Sha.is_password m.password ≡ true)
unfolding make_into
good m out n =
    let name = is_name profile_limit m.name in
    let password = Sha.is_password m.password in
    let Both : Outcome (Result ℕ Refusal) → Type 0 = λ o. o.answer ≡ Ok n → (name ≡ true) × (password ≡ true) in
    choice Both (not name) (λ _ e. not-wrote e)
    (λ named. choice Both (not password) (λ _ e. not-wrote e)
    (λ passed _. (not-false name named, not-false password passed)))

-- what a token and a substitute by DES are, where there is one
token-is : (name password : List ℕ) (token : ℕ) → Des.des_token name password ≡ Ok token
    → (has_des_token password ≡ true) × (token ≡ PW-TOKEN (ebcdic_of password) (ebcdic_of name))
unfolding Des.des_token
token-is name password token =
    let made = PW-TOKEN (ebcdic_of password) (ebcdic_of name) in
    let Is : Result ℕ Refusal → Type 0 = λ b. b ≡ Ok token → (has_des_token password ≡ true) × (token ≡ made) in
    choice Is (not (is_name profile_limit name)) (λ _ e. not-wrote e)
    (λ _. choice Is (not (has_des_token password)) (λ _ e. not-wrote e)
    (λ has e. (not-false (has_des_token password) has, cc)))

substitute-is : (token : ℕ) (name : List ℕ) (server client block : ℕ)
    → Des.des_substitute token name server client ≡ Ok block → block ≡ PW-SUB token server client (ebcdic_of name)
unfolding Des.des_substitute
substitute-is token name server client block =
    let Is : Result ℕ Refusal → Type 0 = λ b. b ≡ Ok block → block ≡ PW-SUB token server client (ebcdic_of name) in
    choice Is (not (is_name profile_limit name)) (λ _ e. not-wrote e) (λ _ e. cc)

module _ (name password : List ℕ) (des : Bool) where
  abbrev asked : Making
  asked = making name password true des

  abbrev profile : Profile
  profile = made_profile asked

  -- the stored profile is the made one
  stored-is-made : (written table : List ℕ) → MadeOf name password des written → (s : Stored written table)
      → s.profile ≡ profile
  stored-is-made written table made s =
      let g = made-records-are-good asked made.out made.count made.wrote in
      let back = tables-written-back table s.ps s.are_bytes s.accepted in
      let version : version_of table ≡ table_version = eqb→eq (version_of table) table_version back.known in
      let o = s.occurs in
      let formed = formed-in (shape_in table) [] o.before s.profile o.after (subst (Ascending (shape_in table) []) o.there back.ascending) in
      same-record table_version s.profile profile
      (subst (λ (v : ℕ). WellFormed (shape_of v) s.profile) version formed)
      g.formed (s.is_written ∙ made.bytes ∙ g.bytes)

  module _ (server client : ℕ) (offered : List ℕ) where
    by-sha : is_name profile_limit name ≡ true → Sha.is_password password ≡ true
        → BySha name password server client offered
        → offered ≡ Sha.PW-SUB (Profiles.stored_sha profile) (bytes 8 server) (bytes 8 client) name
    unfolding ShaAnswer.sha_token ShaAnswer.sha_substitute
    by-sha named passed b =
        let made = rw (named, passed) at b.has_token in
        let token : b.token ≡ Sha.PW-token name password = cc in
        let given = rw named at b.substitute in
        let is : offered ≡ Sha.PW-SUB b.token (bytes 8 server) (bytes 8 client) name = cc in
        is ∙ ap (λ k. Sha.PW-SUB k (bytes 8 server) (bytes 8 client) name) token

    by-des : server < 2 ^ 64 → client < 2 ^ 64 → ByDes name password des server client offered
        → T (des_allowed profile)
        × (offered ≡ des_substitute_of (Profiles.stored_des profile) name (bytes 8 server) (bytes 8 client))
    unfolding des_token_bytes
    by-des s k b =
        let t = token-is name password b.token b.has_token in
        let block = substitute-is b.token name server client b.block b.substituted in
        let again = number-token (ebcdic_of password) (ebcdic_of name) in (
          yes_and des (has_des_token password) b.marked (passes (has_des_token password) t.0),
          b.substitute ∙ rw (block, t.0, t.1, again, number-seed server s, number-seed client k),
        )

pub made-signs-on : MadeSignsOn
made-signs-on name password des server client s k not_zero written table payload offered made stored o by =
    let m = making name password true des in
    let both = good m made.out made.count made.wrote in
    let is_made = stored-is-made name password des written table made stored in
    let occurs = subst (λ p. Occurs p stored.ps) is_made stored.occurs in
    let seed_not_zero : bytes 8 client ≡ zero_seed → ⊥ = λ e. not_zero (sym (number-seed client k) ∙ ap number e) in
    let granted : Granted (bytes 8 server) stored.ps o.vs = record {
      user = name;
      client_seed = bytes 8 client;
      offered = offered;
      profile = made_profile m;
      seed_told = o.seed_told;
      offered_told = o.offered_told;
      named = record { told = o.user_told; occurs = occurs; name = refl };
      enabled = tt;
      by = inl record {
        seed = length-bytes 8 client;
        not_zero = seed_not_zero;
        gives = ⊎_elim
            (λ b. inr (by-sha name password des server client offered both.0 both.1 b))
            (λ b. inl (by-des name password des server client offered s k b)) by;
      };
    } in
    let session : Session (bytes 8 server) table payload stored.ps o.vs = record {
      seed_of_eight = length-bytes 8 server;
      table_read = stored.accepted;
      first = o.first;
      payload_read = o.is_read;
    } in
    (verdict-is-its-sentence (bytes 8 server) table payload stored.ps o.vs stored.are_bytes session Grant).1
    granted
