-- A made profile is well-formed, and its record is the pieces one after the other. Assumes nothing.
use mathlib.Core.Path.{◌≡◌, refl, ◌∙◌}
use mathlib.Core.Bool.{true}
use mathlib.Core.List.{List, append-nil}
use Prim.Native.Nat.{ℕ, ◌+◌, ◌/◌, ◌%◌, ◌^◌}
use native.Mathlib.Omega.{arith}
use denote.Floats.{passes}
use lib.ListN.{length}
use Rattle.octets.proofs.Choice.{choice}
use Rattle.words.specs.BigEndian.{bytes}
use Rattle.words.proofs.BigEndian.{length-bytes}
use Rattle.names.specs.Name.{raised, is_name, is_raised_name, profile_limit}
use Rattle.names.proofs.Held.{length-raised, raised-is-raised, raised-within}
use Rattle.sha1_hash.proofs.Digest.{length-sha1}
use Rattle.password_sha.specs.Sha.{PW-token}
use Rattle.profile.specs.Profile.{shape_of, flags_byte, token_bytes, sum_of, body_of, record_bytes}
use Rattle.profile.specs.Table.{table_version}
use Rattle.profile.specs.Theorems.{WellFormed}
use Rattle.profile.proofs.Fronts.{length-body}
use Rattle.profile_maker.specs.Made.{Making, has_des_token, des_token_bytes, made_profile}
use Rattle.profile_maker.specs.Internal.Parts.{laid_out}

length-des : (name password : List ℕ) → length (des_token_bytes name password) ≡ 8
unfolding des_token_bytes
length-des name password = choice (λ (l : List ℕ). length l ≡ 8) (has_des_token password) (λ _. length-bytes 8 _) (λ _. refl)

length-sha : (name password : List ℕ) → length (PW-token name password) ≡ 20
unfolding PW-token
length-sha name password = length-sha1 _

module _ (m : Making) (good : is_name profile_limit m.name ≡ true) where
  pub formed : WellFormed (shape_of table_version) (made_profile m)
  unfolding shape_of
  formed = record {
    marks = refl;
    name = passes (is_raised_name profile_limit (raised m.name)) (raised-is-raised profile_limit m.name ∙ good);
    tokens = rw (length-des, length-sha);
  }

  length-says : length (body_of (made_profile m)) ≡ 30 + length (raised m.name)
  unfolding shape_of sum_of
  length-says = omega (arith, length-body (shape_of table_version) (made_profile m) formed)

  pub laid : record_bytes (made_profile m)
      ≡ laid_out (flags_byte (made_profile m).marks) (raised m.name) (des_token_bytes m.name m.password) (PW-token m.name m.password)
  unfolding record_bytes bytes token_bytes
  laid =
      let n = length (raised m.name) in
      let high : (30 + n) / 2 ^ 8 % 256 ≡ 0 = omega (arith, raised-within m.name good) in
      let low : (30 + n) / 2 ^ 0 % 256 ≡ 30 + n = omega (arith, raised-within m.name good) in
      rw (length-says, high, low, append-nil)

  pub size : length (record_bytes (made_profile m)) ≡ 32 + length m.name
  unfolding record_bytes bytes
  size = omega (arith, length-says, length-raised m.name)
