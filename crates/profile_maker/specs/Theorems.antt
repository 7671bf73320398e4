-- What is proved of made records: they are records of well-formed profiles, and a table of them in ascending order is
-- accepted. The proofs are in `proofs/Goodness.antt`.
use Rattle.std.specs.Prelude.{◌≡◌, List, [], ◌∷◌, map, ℕ, ◌+◌, ◌≤◌, T, length, take, Ok}
use Rattle.names.specs.Name.{raised, is_name, profile_limit}
use Rattle.names.specs.Order.{precedes}
use Rattle.password_sha.specs.Sha.{is_password}
use Rattle.profile.specs.Profile.{shape_of, record_length, record_bytes}
use Rattle.profile.specs.Table.{table_version, profile_count, profiles, table_of, table_bytes}
use Rattle.profile.specs.Theorems.{WellFormed}
use Rattle.profile_maker.specs.Made.{Making, made_profile}
use Rattle.profile_maker.specs.Promise.{make_into}

-- the n bytes that were written are the record of a profile that is well-formed
pub record Good (m : Making) (n : ℕ) (written : List ℕ) : Type 0 where
  pub size : n ≡ record_length (shape_of table_version) (length m.name)
  pub bytes : written ≡ record_bytes (made_profile m)
  pub formed : WellFormed (shape_of table_version) (made_profile m)

-- Where the token maker answers that it wrote n bytes, the first n of what was lent are the record of a well-formed
-- profile.
abbrev pub MadeRecordsAreGood : Type 0
MadeRecordsAreGood =
    (m : Making) (out : List ℕ) (n : ℕ) → (make_into m out).answer ≡ Ok n → Good m n (take n (make_into m out).lent)

-- good names and passwords, the names strictly ascending after one
abbrev pub AscendingMakings : List ℕ → List Making → Type 0
AscendingMakings before [] = Unit {0}
AscendingMakings before (m ∷ ms) =
    T (is_name profile_limit m.name)
    × (T (is_password m.password) × (T (precedes before (raised m.name)) × AscendingMakings (raised m.name) ms))

-- A table of made records in ascending order is accepted, and reads as the profiles that were made.
abbrev pub MadeTablesRead : Type 0
MadeTablesRead =
    (ms : List Making) → AscendingMakings [] ms → length ms ≤ profile_count
    → table_of (table_bytes table_version (map made_profile ms)) ≡ profiles (map made_profile ms)
