-- What a name's own password gives passes, and no other substitute does (`Theorems.OwnPasswordGives`); and nothing
-- passes with a token, a seed or a substitute of another length (`Theorems.OnlyItsLengths`). Assumes nothing.
use mathlib.Core.Path.{◌≡◌, sym, ap, ◌∙◌}
use mathlib.Core.Bool.{Bool, true, ◌&&◌, and-eq-true_iff}
use mathlib.Core.List.{List}
use mathlib.Core.Logic.{◌↔◌}
use Prim.Native.Nat.{ℕ, ◌<◌, ◌^◌}
use native.Mathlib.Nat.{mod-eq_of_lt}
use denote.Floats.{passes, is_true}
use borrow.Author.Tests.{eq-eqb, eqb-true}
use lib.Bits.{xor_lt}
use lib.Dec.{T, eqb, ltb}
use lib.ListN.{length}
use Rattle.octets.specs.Same.{same}
use Rattle.octets.proofs.Choice.{choice}
use Rattle.octets.proofs.Equality.{same-is-equal, same_refl}
use Rattle.words.specs.BigEndian.{number, bytes}
use Rattle.words.proofs.BigEndian.{length-bytes, number-bytes}
use Rattle.names.specs.Name.{is_name, profile_limit}
use Rattle.names.specs.Ebcdic.{ebcdic_of}
use Rattle.des.specs.Cipher.{output}
use Rattle.des.specs.Tables.{IP⁻¹}
use Rattle.des.proofs.Sizes.{permuted-lt}
use Rattle.sha1_hash.proofs.Digest.{length-sha1}
use Rattle.password_des.specs.Des as Des
use Rattle.password_sha.specs.Sha as Sha
use Rattle.password_check.specs.Gives.{seed_length, des_length, sha_length, are_seeds, gives_clear, gives_des, gives_sha}
use Rattle.password_check.specs.Theorems.{OwnGives, OwnPasswordGives, OnlyItsLengths}

-- a token has eight bytes, or twenty
output-lt : (Ks : List (List ℕ)) (x : ℕ) → output Ks x < 2 ^ 64
unfolding output
output-lt Ks x = permuted-lt 64 IP⁻¹ _

token-lt : (PW ID : List ℕ) → Des.PW-TOKEN PW ID < 2 ^ 64
unfolding Des.PW-TOKEN
token-lt PW ID = choice (λ (x : ℕ). x < 2 ^ 64) (ltb 8 (length PW)) (λ _. xor_lt 64 _ _ (output-lt _ _) (output-lt _ _)) (λ _. output-lt _ _)

length-token : (name password : List ℕ) → length (Sha.PW-token name password) ≡ sha_length
unfolding Sha.PW-token
length-token name password = length-sha1 _

-- its eight bytes are the token again
pub number-token : (PW ID : List ℕ) → number (bytes 8 (Des.PW-TOKEN PW ID)) ≡ Des.PW-TOKEN PW ID
number-token PW ID = number-bytes 8 (Des.PW-TOKEN PW ID) ∙ mod-eq_of_lt (token-lt PW ID)

-- the comparison says yes exactly where the two are equal
equal-exactly : (a b : List ℕ) → (same a b ≡ true) ↔ (b ≡ a)
equal-exactly a b = (λ e. sym ((same-is-equal a b).0 (passes (same a b) e)), λ e. is_true (same a b) ((same-is-equal a b).1 (sym e)))

-- with a token of its length, two seeds and a good name, the comparison decides
exactly : (name : List ℕ) → T (is_name profile_limit name) → (n : ℕ) (token server client substitute offered : List ℕ)
    → length token ≡ n → length server ≡ seed_length → length client ≡ seed_length
    → ((eqb (length token) n && (are_seeds server client && (is_name profile_limit name && same substitute offered))) ≡ true) ↔ (offered ≡ substitute)
exactly name good n token server client substitute offered h s k =
    rw (eq-eqb (length token) n h, eq-eqb (length server) seed_length s, eq-eqb (length client) seed_length k, is_true (is_name profile_limit name) good)
    (equal-exactly substitute offered)

pub own-password-gives : OwnPasswordGives
unfolding gives_des gives_sha gives_clear
own-password-gives name password good =
    let named = is_true (is_name profile_limit name) good in
    let des_token = Des.PW-TOKEN (ebcdic_of password) (ebcdic_of name) in
    let token = Sha.PW-token name password in
    record {
      des = λ _ server client offered s k.
          rw (number-token (ebcdic_of password) (ebcdic_of name))
          (exactly name good des_length (bytes 8 des_token) server client _ offered (length-bytes 8 des_token) s k);
      sha = λ _ server client offered s k. exactly name good sha_length token server client _ offered (length-token name password) s k;
      clear = λ offered.
          let compared = same (Sha.PW-token name offered) token in
          let equal = same-is-equal (Sha.PW-token name offered) token in
          let both = and-eq-true_iff (Sha.is_password offered) compared in
          rw named (λ e. ((both.0 e).0, equal.0 (passes compared (both.0 e).1)), λ h. both.1 (h.0, is_true compared (equal.1 h.1)));
      itself = λ h. rw (named, is_true (Sha.is_password password) h) (is_true (same token token) (same_refl token));
    }

-- what the tests and the comparison let pass, where the substitute has m bytes
lengths : (n m : ℕ) (token server client substitute offered : List ℕ) (named : Bool) → length substitute ≡ m
    → (eqb (length token) n && (are_seeds server client && (named && same substitute offered))) ≡ true
    → (length token ≡ n) × ((length server ≡ seed_length) × ((length client ≡ seed_length) × (length offered ≡ m)))
lengths n m token server client substitute offered named long e =
    let tested = (and-eq-true_iff (eqb (length token) n) _).0 e in
    let after = (and-eq-true_iff (are_seeds server client) _).0 tested.1 in
    let seeds = (and-eq-true_iff (eqb (length server) seed_length) (eqb (length client) seed_length)).0 after.0 in
    let compared = ((and-eq-true_iff named (same substitute offered)).0 after.1).1 in
    let token-long = eqb-true (length token) n tested.0 in
    let server-long = eqb-true (length server) seed_length seeds.0 in
    let client-long = eqb-true (length client) seed_length seeds.1 in
    (token-long, (server-long, (client-long, ap length ((equal-exactly substitute offered).0 compared) ∙ long)))

length-substitute : (token server client name : List ℕ) → length (Sha.PW-SUB token server client name) ≡ sha_length
unfolding Sha.PW-SUB
length-substitute token server client name = length-sha1 _

pub only-its-lengths : OnlyItsLengths
unfolding gives_des gives_sha gives_clear
only-its-lengths = record {
  des = λ token name server client offered e.
      lengths des_length des_length token server client _ offered (is_name profile_limit name) (length-bytes 8 _) e;
  sha = λ token name server client offered e.
      let long = length-substitute token server client name in
      lengths sha_length sha_length token server client _ offered (is_name profile_limit name) long e;
  clear = λ token name offered e.
      let given = Sha.PW-token name offered in
      let good = ((and-eq-true_iff (is_name profile_limit name) _).0 e).1 in
      let compared = ((and-eq-true_iff (Sha.is_password offered) (same given token)).0 good).1 in
      ap length ((equal-exactly given token).0 compared) ∙ length-token name offered;
}
