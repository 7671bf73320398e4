-- The conditions for GRANT are the sentences of demand 2, for a profile whose tokens have their lengths and a user that
-- is a name.
-- Assumes nothing.
use mathlib.Core.Path.{◌≡◌, refl, sym, ap, subst, ◌∙◌}
use mathlib.Core.Bool.{Bool, true, false, not, ◌&&◌, ◌||◌}
use mathlib.Core.List.{List, [], ◌∷◌, map}
use mathlib.Core.Logic.{◌⊎◌, inl, inr, ⊎_elim}
use Prim.Native.Nat.{ℕ}
use native.Mathlib.Omega.{arith}
use lib.Dec.{T, eqb, eqb→eq}
use lib.ListN.{length, get_or, get_or-map}
use mir.Facts.{and_yes, yes_and, or_yes}
use denote.Floats.{passes, is_true}
use borrow.Author.Tests.{eq-eqb, not-true}
use Rattle.octets.specs.Same.{same}
use Rattle.octets.proofs.Equality.{same-sound, same_refl}
use Rattle.names.specs.Name.{is_name, profile_limit}
use Rattle.profile.specs.Profile.{Profile, des_allowed, stored_des, stored_sha}
use Rattle.password_sha.specs.Sha.{is_password, PW-token, PW-SUB}
use Rattle.password_check.specs.Gives.{des_length, sha_length, seed_length, are_seeds, des_substitute_of, gives_clear, gives_des, gives_sha}
use Rattle.signon.specs.Attempt.{is_clear, is_clear_password, is_des_substitute, is_sha_substitute}
use Rattle.signon.specs.Theorems.{zero_seed, BySubstitute, ByPassword}

-- a test that cannot hold does not
pub no-so : (b : Bool) → (T b → ⊥) → b ≡ false
no-so true never = absurd (never tt)
no-so false never = refl

pub not_yes : (b : Bool) → T (not b) → b ≡ false
not_yes b t = not-true b (is_true (not b) t)

pub yes-not : (b : Bool) → b ≡ false → T (not b)
yes-not b e = rw e tt

-- equal lists pass the test
pub same-equal : (a b : List ℕ) → a ≡ b → T (same a b)
same-equal a b e = subst (λ l. T (same a l)) e (same_refl a)

-- clear seeds
pub clear-seed : (seed : List ℕ) → T (is_clear seed) → (seed ≡ []) ⊎ (seed ≡ zero_seed)
unfolding is_clear
clear-seed seed t =
    ⊎_elim (λ a. inl (same-sound seed [] a)) (λ b. inr (same-sound seed zero_seed b)) (or_yes (same seed []) (same seed zero_seed) t)

pub seed-clear : (seed : List ℕ) → (seed ≡ []) ⊎ (seed ≡ zero_seed) → T (is_clear seed)
unfolding is_clear same
seed-clear seed (inl e) = rw e tt
seed-clear seed (inr e) = rw e tt

other-seed : (seed : List ℕ) → length seed ≡ seed_length → (seed ≡ zero_seed → ⊥) → is_clear seed ≡ false
other-seed seed eight other =
    no-so (is_clear seed) (λ t. ⊎_elim (λ e. omega (arith, ap length e)) other (clear-seed seed t))

module _ (p : Profile) (des8 : length (stored_des p) ≡ des_length) (sha20 : length (stored_sha p) ≡ sha_length) (user : List ℕ) (good : is_name profile_limit user ≡ true) where
  module _ (server_seed : List ℕ) (eight : length server_seed ≡ seed_length) (seed value : List ℕ) where
    pub clear-says : T (is_clear_password p user server_seed seed value) → ByPassword p user seed value
    unfolding is_clear_password gives_clear
    clear-says t =
        let c = and_yes (is_clear seed) _ t in
        let g = and_yes (is_password value) _ (and_yes (is_name profile_limit user) _ c.1).1 in
        record { seed = clear-seed seed c.0; password = g.0; gives = same-sound (PW-token user value) (stored_sha p) g.1 }

    pub clear-said : ByPassword p user seed value → T (is_clear_password p user server_seed seed value)
    unfolding is_clear_password gives_clear
    clear-said b =
        yes_and (is_clear seed) _ (seed-clear seed b.seed)
        (yes_and (is_name profile_limit user) _ (passes (is_name profile_limit user) good)
        (yes_and (is_password value) _ b.password (same-equal (PW-token user value) (stored_sha p) b.gives)))

    -- what both substitutes ask, besides the token's own length
    abbrev asked : List ℕ → Bool
    asked substitute = are_seeds server_seed seed && (is_name profile_limit user && same substitute value)

    pub record Gives (substitute : List ℕ) : Type 0 where
      pub length : length seed ≡ seed_length
      pub not_zero : seed ≡ zero_seed → ⊥
      pub is : value ≡ substitute

    pub asked-says : (substitute : List ℕ) → is_clear seed ≡ false → T (asked substitute) → Gives substitute
    asked-says substitute other t =
        let s = and_yes (are_seeds server_seed seed) _ t in
        let n = and_yes (is_name profile_limit user) _ s.1 in
        record {
          length = eqb→eq (length seed) seed_length (and_yes (eqb (length server_seed) seed_length) (eqb (length seed) seed_length) s.0).1;
          not_zero = λ e. subst T other (seed-clear seed (inr e));
          is = sym (same-sound substitute value n.1);
        }

    pub said-asked : (substitute : List ℕ) → Gives substitute → T (asked substitute)
    said-asked substitute g =
        yes_and (are_seeds server_seed seed) _
        (yes_and (eqb (length server_seed) seed_length) (eqb (length seed) seed_length)
        (passes (eqb (length server_seed) seed_length) (eq-eqb _ _ eight)) (passes (eqb (length seed) seed_length) (eq-eqb _ _ g.length)))
        (yes_and (is_name profile_limit user) _ (passes (is_name profile_limit user) good) (same-equal substitute value (sym g.is)))

    pub des-says : T (is_des_substitute p user server_seed seed value) → BySubstitute p user server_seed seed value
    unfolding is_des_substitute gives_des
    des-says t =
        let c = and_yes (not (is_clear seed)) _ t in
        let d = and_yes (des_allowed p) _ c.1 in
        let g = asked-says (des_substitute_of (stored_des p) user server_seed seed) (not_yes (is_clear seed) c.0)
        (and_yes (eqb (length (stored_des p)) des_length) _ d.1).1 in
        record { seed = g.length; not_zero = g.not_zero; gives = inl (d.0, g.is) }

    pub sha-says : T (is_sha_substitute p user server_seed seed value) → BySubstitute p user server_seed seed value
    unfolding is_sha_substitute gives_sha
    sha-says t =
        let c = and_yes (not (is_clear seed)) _ t in
        let g = asked-says (PW-SUB (stored_sha p) server_seed seed user) (not_yes (is_clear seed) c.0)
        (and_yes (eqb (length (stored_sha p)) sha_length) _ c.1).1 in
        record { seed = g.length; not_zero = g.not_zero; gives = inr g.is }

    des-said : length seed ≡ seed_length → (seed ≡ zero_seed → ⊥) → T (des_allowed p) → value ≡ des_substitute_of (stored_des p) user server_seed seed
        → T (is_des_substitute p user server_seed seed value)
    unfolding is_des_substitute gives_des
    des-said l z d e =
        yes_and (not (is_clear seed)) _ (yes-not (is_clear seed) (other-seed seed l z))
        (yes_and (des_allowed p) _ d
        (yes_and (eqb (length (stored_des p)) des_length) _ (passes (eqb (length (stored_des p)) des_length) (eq-eqb _ _ des8))
        (said-asked (des_substitute_of (stored_des p) user server_seed seed) (record { length = l; not_zero = z; is = e }))))

    sha-said : length seed ≡ seed_length → (seed ≡ zero_seed → ⊥) → value ≡ PW-SUB (stored_sha p) server_seed seed user
        → T (is_sha_substitute p user server_seed seed value)
    unfolding is_sha_substitute gives_sha
    sha-said l z e =
        yes_and (not (is_clear seed)) _ (yes-not (is_clear seed) (other-seed seed l z))
        (yes_and (eqb (length (stored_sha p)) sha_length) _ (passes (eqb (length (stored_sha p)) sha_length) (eq-eqb _ _ sha20))
        (said-asked (PW-SUB (stored_sha p) server_seed seed user) (record { length = l; not_zero = z; is = e })))

    pub substitute-said : BySubstitute p user server_seed seed value
        → T (is_des_substitute p user server_seed seed value) ⊎ T (is_sha_substitute p user server_seed seed value)
    substitute-said b =
        ⊎_elim (λ d. inl (des-said b.seed b.not_zero d.0 d.1)) (λ e. inr (sha-said b.seed b.not_zero e)) b.gives
