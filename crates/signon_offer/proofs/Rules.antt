-- The reason by the code's tests: a clear seed, the lengths, and the offer against the token that it calls for. Assumes
-- nothing.
use Rattle.std.specs.Prelude.{if◌then◌else◌}
use mathlib.Core.Path.{◌≡◌, refl, sym, ap, ◌∙◌}
use mathlib.Core.Bool.{Bool, true, false, not}
use mathlib.Core.List.{List, [], ◌∷◌}
use Prim.Native.Nat.{ℕ, ◌<◌}
use native.Mathlib.Omega.{arith}
use borrow.Author.Tests.{ne_eqb}
use denote.Floats.{passes}
use lib.ListN.{length, replicate}
use Rattle.octets.specs.Same.{same}
use Rattle.octets.proofs.Choice.{choice₂}
use Rattle.octets.proofs.Equality.{same-differ}
use Rattle.env.specs.Variable.{value_or}
use Rattle.profile.specs.Profile.{Profile, des_allowed, stored_des, stored_sha}
use Rattle.password_sha.specs.Sha.{is_password}
use Rattle.password_check.specs.Gives.{gives_clear, gives_des, gives_sha}
use Rattle.signon.specs.declared.Reason.{Reason}
use Rattle.signon.specs.declared.Reason.TheVariants.{SeedLength, SubstituteLength, TokenDiffers, Granted}
use Rattle.signon.specs.Attempt.{is_clear, grant_rules, one_holds}
use Rattle.signon.specs.Reason.{first_cause, bad_seed_length, bad_substitute_length, des_not_allowed, clear_password_malformed, token_gives, is_granted, offer_causes, reason_offered}
use Rattle.signon.proofs.Reasons.{clear-fits, gives-granted}
use Rattle.signon_offer.specs.Internal.Offers.{by_token, clear_reason, des_reason, sha_reason}

-- clear seeds
pub empty-clear : (seed : List ℕ) → length seed ≡ 0 → is_clear seed ≡ true
unfolding is_clear same
empty-clear [] h = refl
empty-clear (b ∷ bs) h = absurd (omega arith)

pub zeros-clear : (seed : List ℕ) → 0 < length seed → is_clear seed ≡ same seed (replicate 8 0)
unfolding is_clear
zeros-clear seed h = rw (same-differ seed [] (λ e. omega arith))

not-empty : (seed : List ℕ) → is_clear seed ≡ false → length seed ≡ 0 → ⊥
not-empty seed e h = let z : ◌≡◌ {A = Bool} true false = sym (empty-clear seed h) ∙ e in let y : ◌≡◌ {A = ℕ} 0 1 = cc in omega arith

-- a token that gives what is offered makes it granted
granted-by : (gives granted : Bool) → (not gives ≡ false → granted ≡ true)
    → by_token gives ≡ (if not gives then TokenDiffers else if granted then Granted else TokenDiffers)
granted-by true granted f = rw (f refl)
granted-by false granted f = refl

module _ (p : Profile) (name s c o : List ℕ) where
  -- what the conditions come to
  record Tests (seed substitute des clear gives : Bool) : Type 0 where
    seed_is : bad_seed_length c ≡ seed
    substitute_is : bad_substitute_length c o ≡ substitute
    des_is : des_not_allowed p c o ≡ des
    clear_is : clear_password_malformed c o ≡ clear
    token_is : token_gives p name s c o ≡ gives

  under-clear : is_clear c ≡ true → Tests false false false (not (is_password o)) (gives_clear (stored_sha p) name o)
  unfolding bad_substitute_length des_not_allowed clear_password_malformed token_gives
  under-clear e = record { seed_is = clear-fits c (passes (is_clear c) e); substitute_is = rw e; des_is = rw e; clear_is = rw e; token_is = rw e }

  module _ (e : is_clear c ≡ false) (eight : length c ≡ 8) where
    with-eight : length o ≡ 8 → Tests false false (not (des_allowed p)) false (gives_des (stored_des p) name s c o)
    unfolding bad_seed_length bad_substitute_length des_not_allowed clear_password_malformed token_gives
    with-eight n = record { seed_is = rw eight; substitute_is = rw (e, n); des_is = rw (e, n); clear_is = rw e; token_is = rw (e, n) }

    with-twenty : length o ≡ 20 → Tests false false false false (gives_sha (stored_sha p) name s c o)
    unfolding bad_seed_length bad_substitute_length des_not_allowed clear_password_malformed token_gives
    with-twenty n = record { seed_is = rw eight; substitute_is = rw (e, n); des_is = rw (e, n); clear_is = rw e; token_is = rw (e, n) }

  abbrev grants : Bool
  grants = one_holds grant_rules p name s c o

  abbrev Same : Reason → Reason → Type 0
  Same r q = r ≡ q

  pub clear-offer : is_clear c ≡ true → clear_reason p name o ≡ reason_offered p name s c o
  unfolding reason_offered offer_causes first_cause is_granted value_or
  clear-offer e =
      let t = under-clear e in
      rw (t.seed_is, t.substitute_is, t.des_is, t.clear_is, t.token_is)
      (choice₂ Same (not (is_password o)) (λ _. refl) (λ _. granted-by (gives_clear (stored_sha p) name o) grants (λ g. gives-granted p name s c o t.des_is (ap not t.token_is ∙ g))))

  pub seed-length : is_clear c ≡ false → (length c ≡ 8 → ⊥) → SeedLength ≡ reason_offered p name s c o
  unfolding reason_offered offer_causes first_cause value_or bad_seed_length
  seed-length e n = rw (ne_eqb (length c) 0 (not-empty c e), ne_eqb (length c) 8 n)

  module _ (e : is_clear c ≡ false) (eight : length c ≡ 8) where
    pub des-offer : length o ≡ 8 → des_reason p name s c o ≡ reason_offered p name s c o
    unfolding reason_offered offer_causes first_cause is_granted value_or
    des-offer n =
        let t = with-eight e eight n in
        rw (t.seed_is, t.substitute_is, t.des_is, t.clear_is, t.token_is)
        (choice₂ Same (not (des_allowed p)) (λ _. refl) (λ d. granted-by (gives_des (stored_des p) name s c o) grants (λ g. gives-granted p name s c o (t.des_is ∙ d) (ap not t.token_is ∙ g))))

    pub sha-offer : length o ≡ 20 → sha_reason p name s c o ≡ reason_offered p name s c o
    unfolding reason_offered offer_causes first_cause is_granted value_or
    sha-offer n =
        let t = with-twenty e eight n in
        rw (t.seed_is, t.substitute_is, t.des_is, t.clear_is, t.token_is) (granted-by (gives_sha (stored_sha p) name s c o) grants (λ g. gives-granted p name s c o t.des_is (ap not t.token_is ∙ g)))

    pub substitute-length : (length o ≡ 8 → ⊥) → (length o ≡ 20 → ⊥) → SubstituteLength ≡ reason_offered p name s c o
    unfolding reason_offered offer_causes first_cause value_or bad_seed_length bad_substitute_length
    substitute-length n m = rw (eight, e, ne_eqb (length o) 8 n, ne_eqb (length o) 20 m)
