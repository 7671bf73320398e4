-- What an answer of the look-up means. The proof is in `proofs/Meaning.antt`.
use Rattle.std.specs.Prelude.{◌≡◌, List, ℕ, Option, None, Some, Result, Ok, Err}
use Rattle.octets.specs.Bytes.{Bytes}
use Rattle.refusal.specs.declared.Refusal.{Refusal}
use Rattle.profile.specs.Profile.{Profile}
use Rattle.profile.specs.Table.{profiles, table_of, profile_in}
use Rattle.profile.specs.Lookup.{ProfileLookup, no_profile, one_profile, profile_named}
use Rattle.profile_table.specs.declared.Entry.{Entry}
use Rattle.profile_table.specs.Answer.{entry, found_in}

-- what a look-up in the profiles of a table must be, by its answer: none, or the profile that is at the answer's
-- place, with its marks
abbrev pub Tells : List ℕ → ProfileLookup → Result (Option Entry) Refusal → Type 0
Tells table l (Ok None) = l ≡ no_profile
Tells table l (Ok (Some e)) = (l ≡ one_profile (profile_in table e.at)) × (e ≡ entry e.at (profile_in table e.at))
Tells table l (Err r) = ⊥

-- In a table that reads as profiles a look-up answers by those profiles.
abbrev pub FoundIsNamed : Type 0
FoundIsNamed =
    (table : List ℕ) (ps : List Profile) → Bytes table → table_of table ≡ profiles ps
    → (name : List ℕ) → Tells table (profile_named name ps) (found_in name (table_of table))
