-- What the functions of this crate answer about a table, by what the table says (`profile`, `specs/Table.antt`).
use Rattle.std.specs.Prelude.{ℕ, ◌+◌, List, [], ◌∷◌, length, if◌then◌else◌, Option, None, Some, Result, Ok, Err}
use Rattle.refusal.specs.declared.Refusal.{Refusal}
use Rattle.octets.specs.Same.{same}
use Rattle.profile.specs.Profile.{Profile, enabled, des_allowed, record_bytes}
use Rattle.profile.specs.Table.{TableReading, profiles, table_refused}
use Rattle.profile_table.specs.declared.Entry.{Entry}

-- how many profiles a table has, or its refusal
unfoldable pub checked : TableReading → Result ℕ Refusal
checked (profiles ps) = Ok (length ps)
checked (table_refused e) = Err e

-- the place of a profile's record, and its marks
abbrev pub entry : ℕ → Profile → Entry
entry at p = record { at = at; enabled = enabled p; des_allowed = des_allowed p }

-- the first profile of a name, where the records of profiles begin at a place
unfoldable pub found_from : ℕ → List ℕ → List Profile → Option Entry
found_from at name [] = None
found_from at name (p ∷ ps) = if same name p.name then Some (entry at p) else found_from (at + length (record_bytes p)) name ps

-- the profile of a name in a table, or the table's refusal; the records come after the version byte
unfoldable pub found_in : List ℕ → TableReading → Result (Option Entry) Refusal
found_in name (profiles ps) = Ok (found_from 1 name ps)
found_in name (table_refused e) = Err e
