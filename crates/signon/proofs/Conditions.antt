-- Each condition of a reason is its sentence (`ReasonTheorems.ConditionsSay`). Assumes nothing.
use mathlib.Core.Path.{◌≡◌, refl, sym, subst}
use mathlib.Core.Bool.{Bool, true, false, not, ◌&&◌, ◌||◌}
use mathlib.Core.List.{List}
use mathlib.Core.Logic.{◌↔◌, inr}
use Prim.Native.Nat.{ℕ}
use native.Mathlib.Omega.{arith}
use lib.Dec.{T, eqb, eqb→eq}
use lib.ListN.{length}
use mir.Facts.{and_yes, yes_and}
use denote.Floats.{passes, is_true}
use borrow.Author.Tests.{eq-eqb}
use Rattle.octets.specs.Same.{same}
use Rattle.octets.proofs.Equality.{same-sound}
use Rattle.names.specs.Name.{is_name, profile_limit}
use Rattle.profile.specs.Profile.{Profile, des_allowed, stored_des, stored_sha}
use Rattle.password_sha.specs.Sha.{is_password, PW-token, PW-SUB}
use Rattle.password_check.specs.Gives.{des_length, sha_length, seed_length, des_substitute_of, gives_clear, gives_des, gives_sha}
use Rattle.signon.specs.Attempt.{is_clear}
use Rattle.signon.specs.Reason.{bad_seed_length, bad_substitute_length, des_not_allowed, clear_password_malformed, token_gives}
use Rattle.signon.specs.ReasonTheorems.{Clear, NotClear, TokenSays, ConditionsSay}
use Rattle.signon.proofs.Rules.{no-so, not_yes, yes-not, clear-seed, seed-clear, same-equal, Gives, asked-says, said-asked}

-- TESTS

same_length : (m n : ℕ) → T (eqb m n) ↔ (m ≡ n)
same_length m n = (eqb→eq m n, λ e. passes (eqb m n) (eq-eqb m n e))

neither : (a b : Bool) → T (not (a || b)) ↔ ((T a → ⊥) × (T b → ⊥))
neither true b = (λ t. absurd t, λ n. n.0 tt)
neither false true = (λ t. absurd t, λ n. n.1 tt)
neither false false = (λ _. (λ t. t, λ t. t), λ _. tt)

other-lengths : (m a b : ℕ) → T (not (eqb m a || eqb m b)) ↔ ((m ≡ a → ⊥) × (m ≡ b → ⊥))
other-lengths m a b =
    let n = neither (eqb m a) (eqb m b) in (
      λ t. (λ e. (n.0 t).0 ((same_length m a).1 e), λ e. (n.0 t).1 ((same_length m b).1 e)),
      λ f. n.1 (λ t. f.0 ((same_length m a).0 t), λ t. f.1 ((same_length m b).0 t)),
    )

not-clear : (seed : List ℕ) → T (not (is_clear seed)) ↔ NotClear seed
not-clear seed = (
  λ t c. subst T (not_yes (is_clear seed) t) (seed-clear seed c),
  λ n. yes-not (is_clear seed) (no-so (is_clear seed) (λ t. n (clear-seed seed t))),
)

is-not : (b : Bool) → T (not b) ↔ (b ≡ false)
is-not b = (not_yes b, yes-not b)

-- a test that is a statement fails where the statement does not hold
fails-where : {A : Type 0} (b : Bool) → T b ↔ A → (b ≡ false) ↔ (A → ⊥)
fails-where b i = (λ e a. subst T e (i.1 a), λ n. no-so b (λ t. n (i.0 t)))

-- CONDITIONS

seed-says : (client_seed : List ℕ) → T (bad_seed_length client_seed) ↔ ((length client_seed ≡ 0 → ⊥) × (length client_seed ≡ 8 → ⊥))
unfolding bad_seed_length
seed-says client_seed = other-lengths (length client_seed) 0 8

substitute-says : (client_seed offered : List ℕ)
    → T (bad_substitute_length client_seed offered) ↔ (NotClear client_seed × ((length offered ≡ 8 → ⊥) × (length offered ≡ 20 → ⊥)))
unfolding bad_substitute_length
substitute-says client_seed offered =
    let n = not-clear client_seed in
    let l = other-lengths (length offered) 8 20 in (
      λ t. let b = and_yes (not (is_clear client_seed)) _ t in (n.0 b.0, l.0 b.1),
      λ f. yes_and (not (is_clear client_seed)) _ (n.1 f.0) (l.1 f.1),
    )

des-says : (p : Profile) (client_seed offered : List ℕ)
    → T (des_not_allowed p client_seed offered) ↔ (NotClear client_seed × ((length offered ≡ 8) × (des_allowed p ≡ false)))
unfolding des_not_allowed
des-says p client_seed offered =
    let n = not-clear client_seed in
    let l = same_length (length offered) 8 in
    let d = is-not (des_allowed p) in (
      λ t.
          let b = and_yes (not (is_clear client_seed)) _ t in
          let c = and_yes (eqb (length offered) 8) _ b.1 in
          (n.0 b.0, (l.0 c.0, d.0 c.1)),
      λ f. yes_and (not (is_clear client_seed)) _ (n.1 f.0) (yes_and (eqb (length offered) 8) _ (l.1 f.1.0) (d.1 f.1.1)),
    )

clear-says : (client_seed offered : List ℕ) → T (clear_password_malformed client_seed offered) ↔ (Clear client_seed × (is_password offered ≡ false))
unfolding clear_password_malformed
clear-says client_seed offered =
    let w = is-not (is_password offered) in (
      λ t. let b = and_yes (is_clear client_seed) _ t in (clear-seed client_seed b.0, w.0 b.1),
      λ f. yes_and (is_clear client_seed) _ (seed-clear client_seed f.0) (w.1 f.1),
    )

-- THE TOKEN

module _ (p : Profile) (des8 : length (stored_des p) ≡ des_length) (sha20 : length (stored_sha p) ≡ sha_length) (name s c o : List ℕ)
    (good : is_name profile_limit name ≡ true) (eight : length s ≡ seed_length) where
  under-clear : Clear c → T (is_password o) → T (token_gives p name s c o) ↔ (PW-token name o ≡ stored_sha p)
  unfolding token_gives gives_clear
  under-clear clear word = rw (is_true (is_clear c) (seed-clear c clear)) (
    λ t. same-sound (PW-token name o) (stored_sha p) (and_yes (is_password o) _ (and_yes (is_name profile_limit name) _ t).1).1,
    λ e. yes_and (is_name profile_limit name) _ (passes (is_name profile_limit name) good) (yes_and (is_password o) _ word (same-equal (PW-token name o) (stored_sha p) e)),
  )

  module _ (other : NotClear c) (long : length c ≡ seed_length) where
    unclear : is_clear c ≡ false
    unclear = not_yes (is_clear c) ((not-clear c).1 other)

    gives : (substitute : List ℕ) → o ≡ substitute → Gives p des8 sha20 name good s eight c o substitute
    gives substitute e = record { length = long; not_zero = λ z. other (inr z); is = e }

    by-des : length o ≡ des_length → T (token_gives p name s c o) ↔ (o ≡ des_substitute_of (stored_des p) name s c)
    unfolding token_gives gives_des
    by-des n = rw (unclear, eq-eqb (length o) des_length n) (
      λ t. (asked-says p des8 sha20 name good s eight c o (des_substitute_of (stored_des p) name s c) unclear (and_yes (eqb (length (stored_des p)) des_length) _ t).1).is,
      λ e. yes_and (eqb (length (stored_des p)) des_length) _ (passes (eqb (length (stored_des p)) des_length) (eq-eqb _ _ des8))
          (said-asked p des8 sha20 name good s eight c o (des_substitute_of (stored_des p) name s c) (gives _ e)),
    )

    by-sha : length o ≡ sha_length → T (token_gives p name s c o) ↔ (o ≡ PW-SUB (stored_sha p) s c name)
    unfolding token_gives gives_sha
    by-sha n = rw (unclear, n) (
      λ t. (asked-says p des8 sha20 name good s eight c o (PW-SUB (stored_sha p) s c name) unclear (and_yes (eqb (length (stored_sha p)) sha_length) _ t).1).is,
      λ e. yes_and (eqb (length (stored_sha p)) sha_length) _ (passes (eqb (length (stored_sha p)) sha_length) (eq-eqb _ _ sha20))
          (said-asked p des8 sha20 name good s eight c o (PW-SUB (stored_sha p) s c name) (gives _ e)),
    )

  token-says : TokenSays p name s c o
  token-says = record {
    clear = λ clear word. fails-where (token_gives p name s c o) (under-clear clear word);
    des = λ other long n. fails-where (token_gives p name s c o) (by-des other long n);
    sha = λ other long n. fails-where (token_gives p name s c o) (by-sha other long n);
  }

pub conditions-say : ConditionsSay
conditions-say = record {
  seed = seed-says;
  substitute = substitute-says;
  des = des-says;
  clear = clear-says;
  token = λ p des8 sha20 name s c o good eight. token-says p des8 sha20 name s c o good eight;
}
