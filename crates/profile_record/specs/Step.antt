-- The step from one record of a table to the next (specification, "Refusal numbers" 31 and 32: record by record 31
-- before 32).
use Rattle.std.specs.Prelude.{ℕ, not, List, leb, if◌then◌else◌, Result, Ok, Err}
use Rattle.refusal.specs.declared.Refusal.{Refusal}
use Rattle.refusal.specs.declared.Refusal.TheVariants.{BadProfile, ProfilesNotAscending}
use Rattle.names.specs.Order.{precedes}
use Rattle.profile.specs.Profile.{Shape}
use Rattle.profile.specs.Table.{profile_count, name_length_at, name_at, is_record}

-- the record at the front of bytes, by the length of its name, after `count` profiles, the last of which has the name
-- `before`
unfoldable pub step_of : Shape → (count : ℕ) (before bs : List ℕ) → Result ℕ Refusal
step_of s count before bs =
    if not (is_record s bs) then Err BadProfile else
    if leb profile_count count then Err ProfilesNotAscending else
    if not (precedes before (name_at bs)) then Err ProfilesNotAscending else
    Ok (name_length_at bs)
