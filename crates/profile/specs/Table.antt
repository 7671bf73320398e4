-- The profile table: "one version byte 1, then records", their names strictly ascending, at most 500 (specification,
-- "Profile table" and "Refusal numbers" 30 to 32: 30 by the first byte alone, then record by record 31 before 32).
use Rattle.std.specs.Prelude.{ℕ, zero, suc, ◌+◌, ◌^◌, Bool, not, ◌&&◌, List, [], ◌∷◌, ◌++◌, eqb, leb, ltb, length, get_or, take, drop, if◌then◌else◌}
use Rattle.names.specs.Name.{is_raised_name, profile_limit}
use Rattle.names.specs.Order.{precedes}
use Rattle.words.specs.BigEndian.{number}
use Rattle.refusal.specs.declared.Refusal.{Refusal}
use Rattle.refusal.specs.declared.Refusal.TheVariants.{BadTable, BadProfile, ProfilesNotAscending}
use Rattle.profile.specs.Profile.{Shape, shape_of, Profile, marks_of, tokens_of, body_length, record_length, record_bytes}

-- the version that a table is made with, and whether a version is known
abbrev pub table_version : ℕ
table_version = 1

abbrev pub is_version : ℕ → Bool
is_version v = eqb v table_version

-- how many profiles a table has at most
abbrev pub profile_count : ℕ
profile_count = 500

-- at the front of bytes: the flags, n, the name and the tokens of a record
abbrev pub flags_at : List ℕ → ℕ
flags_at bs = get_or bs 2 0

abbrev pub name_length_at : List ℕ → ℕ
name_length_at bs = get_or bs 3 0

abbrev pub name_at : List ℕ → List ℕ
name_at bs = take (name_length_at bs) (drop 4 bs)

-- the profile that they say
abbrev pub profile_at : Shape → List ℕ → Profile
profile_at s bs = record {
  marks = marks_of s.marks (flags_at bs);
  name = name_at bs;
  tokens = tokens_of s.tokens (drop (4 + name_length_at bs) bs);
}

-- a well-formed record is at the front: it is not cut, its length is right for its name, no other flag is set, and
-- its name is a raised name
unfoldable pub is_record : Shape → List ℕ → Bool
is_record s bs =
    leb (record_length s (name_length_at bs)) (length bs)
    && (eqb (number (take 2 bs)) (body_length s (name_length_at bs))
    && (ltb (flags_at bs) (2 ^ s.marks) && is_raised_name profile_limit (name_at bs)))

-- what a table says: its profiles in their order, or the first refusal
pub data TableReading : Type 0 where
  profiles : List Profile → TableReading
  table_refused : Refusal → TableReading

-- a profile with what comes after it
unfoldable pub add_profile : Profile → TableReading → TableReading
add_profile p (profiles ps) = profiles (p ∷ ps)
add_profile p (table_refused e) = table_refused e

-- what is read of bytes that are not at their end
unfoldable pub unless_end : List ℕ → TableReading → TableReading
unless_end [] reading = profiles []
unless_end (b ∷ bs) reading = reading

-- The records of bytes, where there is room for that many more and their names come after one. Decides 31 for a record
-- that is not well-formed, then 32 for one too many and for one whose name does not come after the name before it.
-- Bytes that are left over are a record that is cut.
unfoldable pub profiles_from : Shape → (room : ℕ) (before bs : List ℕ) → TableReading
profiles_from s zero before bs = unless_end bs (if not (is_record s bs) then table_refused BadProfile else table_refused ProfilesNotAscending)
profiles_from s (suc room) before bs = unless_end bs
    (if not (is_record s bs) then table_refused BadProfile else
    if not (precedes before (name_at bs)) then table_refused ProfilesNotAscending else
    add_profile (profile_at s bs) (profiles_from s room (name_at bs) (drop (record_length s (name_length_at bs)) bs)))

-- A table. Decides 30; no name comes before the first, and the empty text comes before every name.
unfoldable pub table_of : List ℕ → TableReading
table_of [] = table_refused BadTable
table_of (v ∷ bs) = if not (is_version v) then table_refused BadTable else profiles_from (shape_of v) profile_count [] bs

-- the version byte of a table, and the shape of its records
abbrev pub version_of : List ℕ → ℕ
version_of table = get_or table 0 0

abbrev pub shape_in : (table : List ℕ) → Shape
shape_in table = shape_of (version_of table)

-- the profile that the record at a place of a table says
abbrev pub profile_in : (table : List ℕ) (at : ℕ) → Profile
profile_in table at = profile_at (shape_in table) (drop at table)

-- the records of profiles, one after the other
unfoldable pub records_bytes : List Profile → List ℕ
records_bytes [] = []
records_bytes (p ∷ ps) = record_bytes p ++ records_bytes ps

-- a table of profiles
abbrev pub table_bytes : (version : ℕ) → List Profile → List ℕ
table_bytes version ps = version ∷ records_bytes ps
