-- Tokens and substitutes against RFC 4777 ("section 5.1", "section 5.2 gives token and substitute"): what the four
-- entry points answer for good names and passwords, beside the sections' own names. The sections are rendered in
-- `password_des/specs/Des.antt` and `password_sha/specs/Sha.antt`.
use Rattle.std.specs.Prelude.{◌≡◌, List, ℕ, T, Ok}
use Rattle.words.specs.BigEndian.{bytes}
use Rattle.names.specs.Name.{is_name, profile_limit}
use Rattle.names.specs.Ebcdic.{ebcdic_of}
use Rattle.password_des.specs.Answer.{des_password_limit, des_token, des_substitute}
use Rattle.password_des.specs.Des as Section5-1
use Rattle.password_sha.specs.Answer.{sha_token, sha_substitute}
use Rattle.password_sha.specs.Sha as Section5-2

-- section 5.1, steps 1 to 4 and 8, of password and name in EBCDIC
abbrev pub DesTokenOfTheSection : Type 0
DesTokenOfTheSection =
    (name password : List ℕ) → T (is_name profile_limit name) → T (is_name des_password_limit password)
    → des_token name password ≡ Ok (Section5-1.PW-TOKEN (ebcdic_of password) (ebcdic_of name))

-- section 5.1, steps 5 to 7, under the seeds of server and client
abbrev pub DesSubstituteOfTheSection : Type 0
DesSubstituteOfTheSection =
    (token : ℕ) (name : List ℕ) (server client : ℕ) → T (is_name profile_limit name)
    → des_substitute token name server client ≡ Ok (Section5-1.PW-SUB token server client (ebcdic_of name))

-- section 5.2, steps 1 to 3
abbrev pub ShaTokenOfTheSection : Type 0
ShaTokenOfTheSection =
    (name password : List ℕ) → T (is_name profile_limit name) → T (Section5-2.is_password password)
    → sha_token name password ≡ Ok (Section5-2.PW-token name password)

-- section 5.2, steps 4 and 5, under the eight bytes of each seed
abbrev pub ShaSubstituteOfTheSection : Type 0
ShaSubstituteOfTheSection =
    (token name : List ℕ) (server client : ℕ) → T (is_name profile_limit name)
    → sha_substitute token name server client ≡ Ok (Section5-2.PW-SUB token (bytes 8 server) (bytes 8 client) name)
