-- The shapes of the versions that are known. Assumes nothing.
use mathlib.Core.Path.{◌≡◌, refl, sym, ap, ◌∙◌}
use mathlib.Core.List.{List, [], ◌∷◌}
use Prim.Native.Nat.{ℕ, ◌+◌, ◌/◌, ◌%◌, ◌^◌, ◌<◌}
use native.Mathlib.Omega.{arith}
use lib.Dec.{T, eqb}
use lib.ListN.{length, get_or, take, drop, get_or-map}
use denote.Floats.{is_true}
use Rattle.names.specs.Name.{profile_limit}
use Rattle.profile.specs.Profile.{Profile, shape_of, enabled, des_allowed, stored_des, stored_sha, marks_of, tokens_of, sum_of, body_length}
use Rattle.profile.specs.Table.{is_version, profile_count, flags_at, name_length_at, profile_at, profiles_from, table_of}
use Rattle.profile.specs.Theorems.{WellFormed}

-- two bytes can say the length of a record
pub short : (v : ℕ) → body_length (shape_of v) profile_limit < 2 ^ 16
unfolding shape_of sum_of
short v = omega arith

-- a table of a version that is known is read by its records
pub by-records : (v : ℕ) (bs : List ℕ) → T (is_version v) → table_of (v ∷ bs) ≡ profiles_from (shape_of v) profile_count [] bs
unfolding table_of
by-records v bs known = rw (is_true (is_version v) known)

-- what the record at the front of bytes says of its profile, of whatever version
module _ (v : ℕ) (bs : List ℕ) where
  pub enabled-at : enabled (profile_at (shape_of v) bs) ≡ eqb (flags_at bs % 2) 1
  unfolding shape_of marks_of
  enabled-at = refl

  pub des-allowed-at : des_allowed (profile_at (shape_of v) bs) ≡ eqb (flags_at bs / 2 % 2) 1
  unfolding shape_of marks_of
  des-allowed-at = refl

  pub stored-des-at : stored_des (profile_at (shape_of v) bs) ≡ take 8 (drop (4 + name_length_at bs) bs)
  unfolding shape_of tokens_of
  stored-des-at = refl

  pub stored-sha-at : stored_sha (profile_at (shape_of v) bs) ≡ take 20 (drop 8 (drop (4 + name_length_at bs) bs))
  unfolding shape_of tokens_of
  stored-sha-at = refl

-- how long the tokens of a well-formed profile are
pub token-lengths : (v : ℕ) (p : Profile) → WellFormed (shape_of v) p → (length (stored_des p) ≡ 8) × (length (stored_sha p) ≡ 20)
unfolding shape_of
token-lengths v p formed =
    let at : (i : ℕ) → length (get_or p.tokens i []) ≡ get_or (8 ∷ 20 ∷ []) i 0 =
    λ i. sym (get_or-map length p.tokens i []) ∙ ap (λ l. get_or l i 0) formed.tokens in
    (at 0, at 1)
