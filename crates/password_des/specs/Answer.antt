-- A token or a substitute, or the refusal of a bad profile name, and after that of a bad
-- password. Names and passwords are given in ASCII, seeds as numbers of eight bytes.
use Rattle.std.specs.Prelude.{ℕ, not, List, if◌then◌else◌, Result, Ok, Err}
use Rattle.refusal.specs.declared.Refusal.{Refusal}
use Rattle.refusal.specs.declared.Refusal.TheVariants.{BadProfileName, BadPassword}
use Rattle.names.specs.Name.{is_name, profile_limit}
use Rattle.names.specs.Ebcdic.{ebcdic_of}
use Rattle.password_des.specs.Des as Des

-- "the password (1 to 10 of the same set, raised likewise)"
abbrev pub des_password_limit : ℕ
des_password_limit = 10

unfoldable pub des_token : (name password : List ℕ) → Result ℕ Refusal
des_token name password =
    if not (is_name profile_limit name) then Err BadProfileName else
    if not (is_name des_password_limit password) then Err BadPassword else
    Ok (Des.PW-TOKEN (ebcdic_of password) (ebcdic_of name))

unfoldable pub des_substitute : (token : ℕ) → List ℕ → (server_seed client_seed : ℕ) → Result ℕ Refusal
des_substitute token name server_seed client_seed =
    if not (is_name profile_limit name) then Err BadProfileName else
    Ok (Des.PW-SUB token server_seed client_seed (ebcdic_of name))
