-- Whether what a client offers is what a stored token gives (specification, "Tokens, substitutes, verdicts", "Verdict",
-- its two rules). Names and clear passwords are ASCII bytes; tokens, seeds and substitutes are lists of bytes, and one
-- of another length than its own gives nothing.
use Rattle.std.specs.Prelude.{ℕ, Bool, ◌&&◌, List, eqb, length}
use Rattle.octets.specs.Same.{same}
use Rattle.words.specs.BigEndian.{number, bytes}
use Rattle.names.specs.Name.{is_name, profile_limit}
use Rattle.names.specs.Ebcdic.{ebcdic_of}
use Rattle.password_des.specs.Des as Des
use Rattle.password_sha.specs.Sha as Sha

-- how long tokens by DES and by SHA-1 are, and a seed
abbrev pub des_length : ℕ
des_length = 8

abbrev pub sha_length : ℕ
sha_length = 20

abbrev pub seed_length : ℕ
seed_length = 8

-- "the value is a clear password whose SHA-1 token is stored"
unfoldable pub gives_clear : (token name offered : List ℕ) → Bool
gives_clear token name offered = is_name profile_limit name && (Sha.is_password offered && same (Sha.PW-token name offered) token)

-- two seeds of eight bytes
abbrev pub are_seeds : (server_seed client_seed : List ℕ) → Bool
are_seeds server_seed client_seed = eqb (length server_seed) seed_length && eqb (length client_seed) seed_length

-- "an 8-byte value is the DES substitute" (section 5.1)
abbrev pub des_substitute_of : (token name server_seed client_seed : List ℕ) → List ℕ
des_substitute_of token name server_seed client_seed = bytes 8 (Des.PW-SUB (number token) (number server_seed) (number client_seed) (ebcdic_of name))

unfoldable pub gives_des : (token name server_seed client_seed offered : List ℕ) → Bool
gives_des token name server_seed client_seed offered =
    eqb (length token) des_length
    && (are_seeds server_seed client_seed && (is_name profile_limit name && same (des_substitute_of token name server_seed client_seed) offered))

-- "a 20-byte value is the SHA-1 substitute" (section 5.2)
unfoldable pub gives_sha : (token name server_seed client_seed offered : List ℕ) → Bool
gives_sha token name server_seed client_seed offered =
    eqb (length token) sha_length
    && (are_seeds server_seed client_seed && (is_name profile_limit name && same (Sha.PW-SUB token server_seed client_seed name) offered))
