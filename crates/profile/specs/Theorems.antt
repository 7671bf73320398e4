-- What is proved of profile tables: they read back, what is read is written back, the first bad record decides, and a
-- look-up is membership; and one table in bytes. The proofs are in `proofs/Fronts.antt`, `proofs/Tables.antt`,
-- `proofs/Backs.antt`, `proofs/Decides.antt`, `proofs/Example.antt` and `proofs/Members.antt`.
use Rattle.std.specs.Prelude.{◌≡◌, true, false, List, [], ◌∷◌, ◌++◌, map, ◌↔◌, ◌⊎◌, ℕ, ◌+◌, ◌^◌, ◌≤◌, ◌<◌, T, length}
use Rattle.octets.specs.Ascii.{ascii}
use Rattle.octets.specs.Bytes.{Bytes}
use Rattle.refusal.specs.declared.Refusal.TheVariants.{BadProfile, ProfilesNotAscending}
use Rattle.words.specs.BigEndian.{bytes}
use Rattle.names.specs.Name.{is_raised_name, profile_limit}
use Rattle.names.specs.Order.{precedes}
use Rattle.profile.specs.Profile.{Shape, shape_of, Profile, body_length, enabled, des_allowed, stored_des, stored_sha, record_bytes}
use Rattle.profile.specs.Lookup.{one_profile, profile_named}
use Rattle.profile.specs.Table.{is_version, profile_count, TableReading, profiles, table_refused, profiles_from, table_of, version_of, shape_in, records_bytes, table_bytes}

-- a profile that a record of a shape can say
pub record WellFormed (s : Shape) (p : Profile) : Type 0 where
  pub marks : length p.marks ≡ s.marks
  pub name : T (is_raised_name profile_limit p.name)
  pub tokens : map length p.tokens ≡ s.tokens

-- profiles of a shape, their names strictly ascending after one
abbrev pub Ascending : Shape → List ℕ → List Profile → Type 0
Ascending s before [] = Unit {0}
Ascending s before (p ∷ ps) = WellFormed s p × (T (precedes before p.name) × Ascending s p.name ps)

-- Records of profiles that are well-formed, strictly ascending and not too many read as those profiles, whatever the
-- shape, if two bytes can say the length of its records.
abbrev pub RecordsReadBack : Type 0
RecordsReadBack =
    (s : Shape) → body_length s profile_limit < 2 ^ 16 → (room : ℕ) (before : List ℕ) (ps : List Profile)
    → Ascending s before ps → length ps ≤ room → profiles_from s room before (records_bytes ps) ≡ profiles ps

-- And so does a table of a version that is known.
abbrev pub TablesReadBack : Type 0
TablesReadBack =
    (version : ℕ) → T (is_version version) → (ps : List Profile) → Ascending (shape_of version) [] ps → length ps ≤ profile_count
    → table_of (table_bytes version ps) ≡ profiles ps

-- a table of profiles that are well-formed, strictly ascending and not too many
pub record IsTable (table : List ℕ) (ps : List Profile) : Type 0 where
  pub known : T (is_version (version_of table))
  pub bytes : table_bytes (version_of table) ps ≡ table
  pub ascending : Ascending (shape_in table) [] ps
  pub few : length ps ≤ profile_count

-- What is read without refusal, written, gives the bytes.
abbrev pub TablesWrittenBack : Type 0
TablesWrittenBack = (table : List ℕ) (ps : List Profile) → Bytes table → table_of table ≡ profiles ps → IsTable table ps

-- the name that the next record must come after; none, before the first
unfoldable pub last_name : List Profile → List ℕ
last_name [] = []
last_name (p ∷ []) = p.name
last_name (p ∷ q ∷ ps) = last_name (q ∷ ps)

-- bytes at whose front there is no record of a well-formed profile
abbrev pub Malformed : Shape → List ℕ → Type 0
Malformed s bs = (p : Profile) (more : List ℕ) → WellFormed s p → bs ≡ record_bytes p ++ more → ⊥

-- what the bytes after good records decide by the record at their front, whatever comes after it: 31, and then 32
pub record FrontDecides (version : ℕ) (ps : List Profile) (rest : List ℕ) : Type 0 where
  pub malformed : (rest ≡ [] → ⊥) → Malformed (shape_of version) rest → table_of (table_bytes version ps ++ rest) ≡ table_refused BadProfile
  pub misplaced : (p : Profile) (more : List ℕ) → WellFormed (shape_of version) p → rest ≡ record_bytes p ++ more
      → (T (precedes (last_name ps) p.name) → ⊥) ⊎ (length ps ≡ 500) → table_of (table_bytes version ps ++ rest) ≡ table_refused ProfilesNotAscending

-- "In tables, record by record, 31 before 32": the first record that is malformed, out of order or the 501st decides.
abbrev pub FirstRecordDecides : Type 0
FirstRecordDecides =
    (version : ℕ) → T (is_version version) → (ps : List Profile) → Ascending (shape_of version) [] ps → length ps ≤ 500
    → (rest : List ℕ) → Bytes rest → FrontDecides version ps rest

-- Ascending profiles make a table exactly where they are at most 500; "a 501st record" is 32.
abbrev pub AtMost500 : Type 0
AtMost500 =
    (version : ℕ) → T (is_version version) → (ps : List Profile) → Ascending (shape_of version) [] ps
    → (length ps ≤ 500 → table_of (table_bytes version ps) ≡ profiles ps)
    × (500 < length ps → table_of (table_bytes version ps) ≡ table_refused ProfilesNotAscending)

-- A record of 33 bytes: its length without the first two, flags 01X, a name of one letter, and the two tokens.
abbrev pub example_record : List ℕ
example_record =
    0x00 ∷ 0x1F ∷ 0x01 ∷ 0x01 ∷ 0x55 ∷ (bytes 8 0xD1D2D3D4D5D6D7D8 ++ bytes 20 0xA1A2A3A4A5A6A7A8A9AAABACADAEAFB0B1B2B3B4)

-- what a profile says
pub record IsExample (p : Profile) : Type 0 where
  pub name : p.name ≡ ascii "U"
  pub is_enabled : enabled p ≡ true
  pub is_des_allowed : des_allowed p ≡ false
  pub des : stored_des p ≡ bytes 8 0xD1D2D3D4D5D6D7D8
  pub sha : stored_sha p ≡ bytes 20 0xA1A2A3A4A5A6A7A8A9AAABACADAEAFB0B1B2B3B4

-- The table of that record reads as one profile, with its name, marks and tokens.
pub record ExampleRead : Type 0 where
  pub profile : Profile
  pub reads : table_of (0x01 ∷ example_record) ≡ profiles (profile ∷ [])
  pub says : IsExample profile

-- a profile, somewhere in a list
pub record Occurs (p : Profile) (ps : List Profile) : Type 0 where
  pub before : List Profile
  pub after : List Profile
  pub there : ps ≡ before ++ p ∷ after

-- In ascending profiles a look-up finds a profile exactly where it is one of them and has that name; so no other has
-- it.
abbrev pub LookupIsMembership : Type 0
LookupIsMembership =
    (s : Shape) (before : List ℕ) (ps : List Profile) → Ascending s before ps
    → (name : List ℕ) (p : Profile) → (profile_named name ps ≡ one_profile p) ↔ (Occurs p ps × (name ≡ p.name))
