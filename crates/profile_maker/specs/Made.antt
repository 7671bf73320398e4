-- The profile of the token maker (specification, "Profile table"): "takes a name, a password and two yes-or-no marks,
-- enabled and DES allowed, and writes one record; it clears 02X and writes a zero DES token where the password has
-- none". Names and passwords are lists of ASCII bytes.
use Rattle.std.specs.Prelude.{ℕ, Bool, ◌&&◌, List, [], ◌∷◌, replicate, if◌then◌else◌}
use Rattle.words.specs.BigEndian.{bytes}
use Rattle.names.specs.Name.{raised, is_name}
use Rattle.names.specs.Ebcdic.{ebcdic_of}
use Rattle.password_des.specs.Des.{PW-TOKEN}
use Rattle.password_des.specs.Answer.{des_password_limit}
use Rattle.password_sha.specs.Sha.{PW-token}
use Rattle.profile.specs.Profile.{Profile}

-- what the token maker is asked for
pub record Making : Type 0 where
  pub name : List ℕ
  pub password : List ℕ
  pub enabled : Bool
  pub des_allowed : Bool

abbrev pub making : (n p : List ℕ) → Bool → Bool → Making
making n p e d = record { name = n; password = p; enabled = e; des_allowed = d }

-- whether a password has a DES token
abbrev pub has_des_token : List ℕ → Bool
has_des_token password = is_name des_password_limit password

-- the eight bytes of the DES token (section 5.1); zeros, where the password has none
unfoldable pub des_token_bytes : (name password : List ℕ) → List ℕ
des_token_bytes name password = if has_des_token password then bytes 8 (PW-TOKEN (ebcdic_of password) (ebcdic_of name)) else replicate 8 0

-- the profile: the mark for DES only where the password has a token of it; the token also where the mark says no
abbrev pub made_profile : Making → Profile
made_profile m = record {
  marks = m.enabled ∷ (m.des_allowed && has_des_token m.password) ∷ [];
  name = raised m.name;
  tokens = des_token_bytes m.name m.password ∷ PW-token m.name m.password ∷ [];
}
