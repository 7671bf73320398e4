-- A token or a substitute, or the refusal of a bad profile name, and after that of a bad password. Names
-- and passwords are given in ASCII, seeds as numbers of eight bytes.
use Rattle.std.specs.Prelude.{not, List, ℕ, if◌then◌else◌, Result, Ok, Err}
use Rattle.refusal.specs.declared.Refusal.{Refusal}
use Rattle.refusal.specs.declared.Refusal.TheVariants.{BadProfileName, BadPassword}
use Rattle.words.specs.BigEndian.{bytes}
use Rattle.names.specs.Name.{is_name, profile_limit}
use Rattle.password_sha.specs.Sha.{is_password, PW-token, PW-SUB}

unfoldable pub sha_token : (name password : List ℕ) → Result (List ℕ) Refusal
sha_token name password =
    if not (is_name profile_limit name) then Err BadProfileName else
    if not (is_password password) then Err BadPassword else
    Ok (PW-token name password)

unfoldable pub sha_substitute : (token name : List ℕ) (server_seed client_seed : ℕ) → Result (List ℕ) Refusal
sha_substitute token name server_seed client_seed =
    if not (is_name profile_limit name) then Err BadProfileName else
    Ok (PW-SUB token (bytes 8 server_seed) (bytes 8 client_seed) name)
