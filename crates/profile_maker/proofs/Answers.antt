-- What the token maker answers, by the answer of the token by SHA-1 and by the room. Assumes nothing.
use Rattle.std.specs.Prelude.{Result, Ok, Err}
use mathlib.Core.Path.{◌≡◌, refl, sym, subst, ◌∙◌}
use mathlib.Core.Bool.{Bool, true, not}
use mathlib.Core.List.{List, [], ◌∷◌}
use Prim.Native.Nat.{ℕ, ◌+◌, ◌≤◌, ◌<◌}
use native.Mathlib.Omega.{arith}
use borrow.Author.Tests.{not-false}
use lib.ListN.{length}
use Rattle.octets.specs.Lent.{outcome, overwrite}
use Rattle.octets.proofs.Choice.{choice}
use Rattle.octets.proofs.Promise.{front-short, front_fits}
use Rattle.refusal.specs.declared.Refusal.{Refusal}
use Rattle.refusal.specs.declared.Refusal.TheVariants.{NoRoom}
use Rattle.refusal.specs.Written.{written_into}
use Rattle.names.specs.Name.{raised, is_name, profile_limit}
use Rattle.password_sha.specs.Sha.{is_password, PW-token}
use Rattle.password_sha.specs.Answer.{sha_token}
use Rattle.profile.specs.Profile.{flags_byte, record_bytes}
use Rattle.profile_maker.specs.Made.{Making, made_profile}
use Rattle.profile_maker.specs.Promise.{make_into}
use Rattle.profile_maker.specs.Internal.Parts.{SaysDes, laid_out}
use Rattle.profile_maker.proofs.Formed.{laid, size}

-- a good name and a good password, with their token
pub record Given (m : Making) (token : List ℕ) : Type 0 where
  pub named : is_name profile_limit m.name ≡ true
  pub passed : is_password m.password ≡ true
  pub is : token ≡ PW-token m.name m.password

-- what an answer of `sha_token` means for what is asked
abbrev pub Says : Making → Result (List ℕ) Refusal → Type 0
Says m (Ok token) = Given m token
Says m (Err e) = (out : List ℕ) → outcome (Err e) out ≡ make_into m out

says : (m : Making) → Says m (sha_token m.name m.password)
unfolding sha_token make_into
says m =
    let name = is_name profile_limit m.name in
    let password = is_password m.password in
    choice (Says m) (not name)
    (λ e out. rw e)
    (λ e. choice (Says m) (not password)
    (λ f out. rw (e, f))
    (λ f. record { named = not-false name e; passed = not-false password f; is = refl }))

-- and by what the answer is
pub said : (m : Making) (r a : Result (List ℕ) Refusal) → r ≡ sha_token m.name m.password → r ≡ a → Says m a
said m r a e f = subst (Says m) (sym e ∙ f) (says m)

module _ (m : Making) (token : List ℕ) (g : Given m token) (out : List ℕ) where
  writes : make_into m out ≡ written_into (record_bytes (made_profile m)) out
  unfolding make_into
  writes = rw (g.named, g.passed)

  pub short : length out < 32 + length m.name → outcome (Err NoRoom) out ≡ make_into m out
  short h =
      let n = size m g.named in
      sym (writes ∙ front-short _ _ (record_bytes (made_profile m)) out (omega arith))

  pub wrote : (flags : ℕ) (allowed : Bool) (des : List ℕ) → flags ≡ flags_byte (m.enabled ∷ allowed ∷ [])
      → SaysDes m.name m.password m.des_allowed allowed des → 32 + length m.name ≤ length out
      → outcome (Ok (32 + length m.name)) (overwrite out 0 (laid_out flags (raised m.name) des token)) ≡ make_into m out
  wrote flags allowed des f d room =
      let n = size m g.named in
      let b = record_bytes (made_profile m) in
      let e : laid_out flags (raised m.name) des token ≡ b = rw (f, d.mark, d.bytes, g.is) (sym (laid m g.named)) in
      rw (e, ← n) (sym (writes ∙ front_fits _ _ b out (omega arith)))
