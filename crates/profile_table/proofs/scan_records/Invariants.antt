use Rattle.std.specs.Prelude.{Option}
use mathlib.Core.Path.{◌≡◌}
use mathlib.Core.List.{List, []}
use Prim.Native.Nat.{ℕ, ◌-◌, ◌≤◌}
use lib.ListN.{length, drop}
use Rattle.profile.specs.Table.{profile_count, shape_in}
use Rattle.profile_record.proofs.Reading.{records_after}
use Rattle.profile_table.specs.declared.Entry.{Entry}
use Rattle.profile_table.specs.Internal.Steps.{continued, scanned}
use Rattle.profile_table.proofs.scan_records.Given as goal

pub record Far (table name : List ℕ) (at : ℕ) (before : List ℕ) (count : ℕ) (found : Option Entry) : Type 0 where
  pub within : at ≤ length table
  pub few : count ≤ profile_count
  pub whole : continued name count at found (records_after (shape_in table) count before (drop at table))
      ≡ scanned name (records_after (shape_in table) 0 [] (drop 1 table))

abbrev pub invariant-loop-at : goal.invariant-loop-at
invariant-loop-at l = Far l.table l.name l.at l.before l.count l.found

abbrev pub decreases-loop-at : goal.decreases-loop-at
decreases-loop-at l = length l.table - l.at
