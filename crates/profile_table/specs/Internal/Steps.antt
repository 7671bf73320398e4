-- A table read record by record: what was found up to a place.
use Rattle.std.specs.Prelude.{List, ℕ, ◌+◌, length, if◌then◌else◌, Option, None, Some, Result, Ok, Err}
use Rattle.refusal.specs.declared.Refusal.{Refusal}
use Rattle.octets.specs.Same.{same}
use Rattle.profile.specs.Profile.{Profile}
use Rattle.profile.specs.Table.{TableReading, profiles, table_refused}
use Rattle.profile_table.specs.declared.Entry.{Entry}
use Rattle.profile_table.specs.declared.Scan.{Scan}
use Rattle.profile_table.specs.Answer.{entry, found_from}

-- what was found, or else what is found further on
abbrev pub or_else : Option Entry → Option Entry → Option Entry
or_else None f = f
or_else (Some e) f = Some e

-- what a record at a place adds to what was found
abbrev pub found_here : ℕ → List ℕ → Profile → Option Entry → Option Entry
found_here at name p found = or_else found (if same name p.name then Some (entry at p) else None)

-- a count of profiles and what was found among them
abbrev pub scan : ℕ → Option Entry → Scan
scan n f = record { count = n; found = f }

-- what is answered by a scan that has `count` and `found` at `at`, given the reading of the rest
abbrev pub continued : List ℕ → (count at : ℕ) → Option Entry → TableReading → Result Scan Refusal
continued name count at found (profiles ps) = Ok (scan (count + length ps) (or_else found (found_from at name ps)))
continued name count at found (table_refused e) = Err e

-- a scan of a whole table
abbrev pub scanned : List ℕ → TableReading → Result Scan Refusal
scanned name reading = continued name 0 1 None reading
