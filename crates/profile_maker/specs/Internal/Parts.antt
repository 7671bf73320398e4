-- What a record says of DES, and the bytes of a record laid out one after the other.
use Rattle.std.specs.Prelude.{◌≡◌, Bool, ◌&&◌, List, ◌∷◌, ◌++◌, ℕ, ◌+◌, length}
use Rattle.profile_maker.specs.Made.{has_des_token, des_token_bytes}

-- the mark and the token by DES of a name and a password, where the mark was asked for so
pub record SaysDes (name password : List ℕ) (asked allowed : Bool) (token : List ℕ) : Type 0 where
  pub mark : allowed ≡ (asked && has_des_token password)
  pub bytes : token ≡ des_token_bytes name password

-- a record of flags, a name and two tokens
abbrev pub laid_out : ℕ → (name des sha : List ℕ) → List ℕ
laid_out flags name des sha = 0 ∷ (30 + length name) ∷ flags ∷ length name ∷ (name ++ (des ++ sha))
