-- The numbers of each answer of the profile table, by its cases.
use Rattle.std.specs.Prelude.{ℕ, Option, None, Some, Result, Ok, Err}
use Rattle.refusal.specs.declared.Refusal.{Refusal}
use Rattle.refusal.specs.Refusal.{number}
use Rattle.profile_table.specs.declared.Entry.{Entry}
use Rattle.export_profile.specs.declared.TvTable.{TvTable}
use Rattle.export_profile.specs.declared.TvFound.{TvFound}
use Rattle.export.specs.Numbers.{mark}

abbrev pub table_numbers : Result ℕ Refusal → TvTable
table_numbers (Ok n) = record { refusal = 0; profiles = n }
table_numbers (Err e) = record { refusal = number e; profiles = 0 }

-- no profile: the table has none of the name, where the refusal is 0
abbrev pub no_profile : ℕ → TvFound
no_profile r = record { refusal = r; present = 0; enabled = 0; des_allowed = 0; at = 0 }

abbrev pub found_numbers : Result (Option Entry) Refusal → TvFound
found_numbers (Ok (Some e)) = record { refusal = 0; present = 1; enabled = mark e.enabled; des_allowed = mark e.des_allowed; at = e.at }
found_numbers (Ok None) = no_profile 0
found_numbers (Err e) = no_profile (number e)
