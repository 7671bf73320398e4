-- What is proved of the three tests: the substitutes that a name's own password gives pass, and no others; a clear
-- password passes exactly where its token is the stored one; and nothing passes with a token, a seed or a substitute of
-- another length. The proofs are in `proofs/Own.antt`.
use Rattle.std.specs.Prelude.{◌≡◌, true, List, ◌↔◌, ℕ, T, length}
use Rattle.words.specs.BigEndian.{number, bytes}
use Rattle.names.specs.Name.{is_name, profile_limit}
use Rattle.names.specs.Ebcdic.{ebcdic_of}
use Rattle.password_des.specs.Des as Des
use Rattle.password_des.specs.Answer.{des_password_limit}
use Rattle.password_sha.specs.Sha as Sha
use Rattle.password_check.specs.Gives.{seed_length, gives_clear, gives_des, gives_sha}

-- what a name's own password gives, whatever the seeds, and whatever is offered
pub record OwnGives (name password : List ℕ) : Type 0 where
  -- "an 8-byte value is the DES substitute": the token of a DES password gives section 5.1's PW_SUB of that token, and
  -- nothing else
  pub des : T (is_name des_password_limit password)
      → (server client offered : List ℕ) → length server ≡ seed_length → length client ≡ seed_length
      → let token = Des.PW-TOKEN (ebcdic_of password) (ebcdic_of name) in
      (gives_des (bytes 8 token) name server client offered ≡ true) ↔ (offered ≡ bytes 8 (Des.PW-SUB token (number server) (number client) (ebcdic_of name)))
  -- "a 20-byte value is the SHA-1 substitute": the token of a SHA-1 password gives section 5.2's PW_SUB of that token,
  -- and nothing else
  pub sha : T (Sha.is_password password)
      → (server client offered : List ℕ) → length server ≡ seed_length → length client ≡ seed_length
      → let token = Sha.PW-token name password in
      (gives_sha token name server client offered ≡ true) ↔ (offered ≡ Sha.PW-SUB token server client name)
  -- "the value is a clear password whose SHA-1 token is stored": a clear password passes exactly where its token is
  -- that of this one;
  pub clear : (offered : List ℕ)
      → (gives_clear (Sha.PW-token name password) name offered ≡ true)
      ↔ ((Sha.is_password offered ≡ true) × (Sha.PW-token name offered ≡ Sha.PW-token name password))
  -- and so does this one
  pub itself : T (Sha.is_password password) → gives_clear (Sha.PW-token name password) name password ≡ true

-- "its token .. gives the offered substitute under this session's two seeds .., or .. a clear password gives its stored
-- token": for every good name.
abbrev pub OwnPasswordGives : Type 0
OwnPasswordGives = (name password : List ℕ) → T (is_name profile_limit name) → OwnGives name password

-- What passes has its own length, and so have the stored token and both seeds: the eight or twenty bytes of "8-byte DES
-- token, 20-byte SHA-1 token", eight of a seed.
pub record OnlyItsLengths : Type 0 where
  pub des : (token name server client offered : List ℕ) → gives_des token name server client offered ≡ true
      → (length token ≡ 8) × ((length server ≡ 8) × ((length client ≡ 8) × (length offered ≡ 8)))
  pub sha : (token name server client offered : List ℕ) → gives_sha token name server client offered ≡ true
      → (length token ≡ 20) × ((length server ≡ 8) × ((length client ≡ 8) × (length offered ≡ 20)))
  pub clear : (token name offered : List ℕ) → gives_clear token name offered ≡ true → length token ≡ 20
