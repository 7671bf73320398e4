-- What the definitions say at each way out of the functions. Assumes nothing.
use Rattle.std.specs.Prelude.{if◌then◌else◌, Result, Ok, Err}
use mathlib.Core.Path.{◌≡◌, refl, sym, ap, ◌∙◌}
use mathlib.Core.Bool.{Bool, true, false, not, ◌&&◌, and-eq-true_iff, and-false}
use mathlib.Core.List.{List}
use Prim.Native.Nat.{ℕ}
use native.Mathlib.Omega.{arith}
use borrow.Author.Tests.{eqb-true, eq-eqb, ne_eqb, not-true, not-false}
use lib.Dec.{eqb}
use lib.ListN.{length, take}
use lib.Seq.{take_all}
use Rattle.octets.specs.Bytes.{Bytes}
use Rattle.octets.specs.Same.{same}
use Rattle.refusal.specs.declared.Refusal.{Refusal}
use Rattle.words.specs.BigEndian.{number, bytes}
use Rattle.words.proofs.BigEndian.{bytes-number}
use Rattle.names.specs.Name.{is_name, profile_limit}
use Rattle.password_des.specs.Answer.{des_substitute}
use Rattle.password_sha.specs.Sha as Sha
use Rattle.password_sha.specs.Answer.{sha_token, sha_substitute}
use Rattle.password_check.specs.Gives.{seed_length, des_length, sha_length, gives_clear, are_seeds, gives_des, gives_sha}

-- whether an answer, unless it is a refusal, has the bytes that were offered
abbrev pub gives : {A : Type 0} → (A → List ℕ) → Result A Refusal → List ℕ → Bool
gives written (Ok x) offered = same (written x) offered
gives written (Err e) offered = false

abbrev pub hash_gives : Result (List ℕ) Refusal → List ℕ → Bool
hash_gives = gives (λ bytes. bytes)

abbrev pub block_gives : Result ℕ Refusal → List ℕ → Bool
block_gives = gives (bytes 8)

module _ {A : Type 0} (written : A → List ℕ) (r : Result A Refusal) (offered : List ℕ) where
  pub refused : (e : Refusal) → r ≡ Err e → false ≡ gives written r offered
  refused e h = rw h

  pub compared : (x : A) → r ≡ Ok x → same (written x) offered ≡ gives written r offered
  compared x h = rw h

-- a test before an answer, which is refused where it fails
unless : {A : Type 0} (g : A → Bool) (t : Bool) {refused answer : A} {b : Bool} → g refused ≡ false → g answer ≡ b
    → g (if not t then refused else answer) ≡ (t && b)
unless g true e f = f
unless g false e f = e

pub clear-given : (token name offered : List ℕ) → hash_gives (sha_token name offered) token ≡ gives_clear token name offered
unfolding sha_token gives_clear
clear-given token name offered =
    let g : Result (List ℕ) Refusal → Bool = λ h. hash_gives h token in
    unless g (is_name profile_limit name) refl (unless g (Sha.is_password offered) refl refl)

-- the tests that both substitutes have before anything is compared
abbrev tested : ℕ → (token s k : List ℕ) → Bool → Bool
tested n token s k compared = eqb (length token) n && (are_seeds s k && compared)

module _ (n : ℕ) (token s k : List ℕ) (compared : Bool) where
  pub other_length : (length token ≡ n → ⊥) → false ≡ tested n token s k compared
  other_length h = rw (ne_eqb (length token) n h)

  module _ (seeds : Bool) (e : seeds ≡ are_seeds s k) where
    pub other-seeds : not seeds ≡ true → false ≡ tested n token s k compared
    other-seeds f = rw (← e, not-true seeds f) (sym (and-false (eqb (length token) n)))

    passed : not seeds ≡ false → length token ≡ n → compared ≡ tested n token s k compared
    passed f h = rw (eq-eqb (length token) n h, ← e, not-false seeds f)

-- a seed, or a token, as the word of its eight bytes
word_number : (l : List ℕ) → length l ≡ 8 → number (take 8 l) ≡ number l
word_number l h = ap number (take_all 8 l (omega arith))

word_bytes : (l : List ℕ) → length l ≡ 8 → Bytes l → bytes 8 (number (take 8 l)) ≡ l
word_bytes l h g = rw (word_number l h, ← h) (bytes-number l g)

module _ (token name s k offered : List ℕ) (seeds : Bool) (e : seeds ≡ are_seeds s k) (f : not seeds ≡ false) where
  lengths : (length s ≡ seed_length) × (length k ≡ seed_length)
  lengths =
      let both = (and-eq-true_iff (eqb (length s) seed_length) (eqb (length k) seed_length)).0 (sym e ∙ not-false seeds f) in
      (eqb-true (length s) seed_length both.0, eqb-true (length k) seed_length both.1)

  -- an answer after those tests that only a bad name refuses
  named : {A : Type 0} (g : A → Bool) (n : ℕ) {refused answer : A} {b : Bool} → length token ≡ n → g refused ≡ false → g answer ≡ b
      → g (if not (is_name profile_limit name) then refused else answer) ≡ tested n token s k (is_name profile_limit name && b)
  named g n h r a = unless g (is_name profile_limit name) r a ∙ passed n token s k _ seeds e f h

  pub des-given : length token ≡ des_length
      → block_gives (des_substitute (number (take 8 token)) name (number (take 8 s)) (number (take 8 k))) offered ≡ gives_des token name s k offered
  unfolding des_substitute gives_des
  des-given h =
      rw (word_number token h, word_number s lengths.0, word_number k lengths.1)
      (named (λ b. block_gives b offered) des_length h refl refl)

  pub sha-given : length token ≡ sha_length → Bytes s → Bytes k
      → hash_gives (sha_substitute token name (number (take 8 s)) (number (take 8 k))) offered ≡ gives_sha token name s k offered
  unfolding sha_substitute gives_sha
  sha-given h g₁ g₂ =
      rw (word_bytes s lengths.0 g₁, word_bytes k lengths.1 g₂)
      (named (λ a. hash_gives a offered) sha_length h refl refl)
