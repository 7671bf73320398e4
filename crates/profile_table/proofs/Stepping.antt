-- The records from a place on, by the code's tests in their order, and what a scan makes of each. Assumes nothing.
use Rattle.std.specs.Prelude.{if◌then◌else◌, Option, None, Some, Result, Ok}
use mathlib.Core.Path.{◌≡◌, refl, sym, ap, subst, ◌∙◌}
use mathlib.Core.Bool.{Bool, true, false}
use mathlib.Core.List.{List, [], ◌∷◌}
use Prim.Native.Nat.{ℕ, zero, suc, ◌+◌, ◌-◌, ◌≤◌, ◌<◌}
use native.Mathlib.Nat.{add-zero}
use native.Mathlib.Omega.{arith}
use lib.ListN.{length, take, drop, length-drop, drop_of_length-le}
use lib.Seq.{drop-drop}
use borrow.Author.Rules.{part_to_end}
use Rattle.octets.specs.Same.{same}
use Rattle.octets.proofs.Choice.{choice}
use Rattle.names.specs.Order.{precedes}
use Rattle.refusal.specs.declared.Refusal.{Refusal}
use Rattle.profile.specs.Profile.{Shape, Profile, record_length, record_bytes}
use Rattle.profile.specs.Table.{name_length_at, name_at, profile_at, profile_count, profiles_from, unless_end, TableReading, profiles, table_refused, add_profile}
use Rattle.profile.proofs.Sizes.{reaches, length-record}
use Rattle.profile_record.specs.Step.{step_of}
use Rattle.profile_record.proofs.Reading.{records_after, IsNext, Stepped, steps}
use Rattle.profile_table.specs.declared.Entry.{Entry}
use Rattle.profile_table.specs.Answer.{entry, found_from}
use Rattle.profile_table.specs.Internal.Steps.{or_else, found_here, scan, continued}

-- what was found, with one record more
or-chain : (found : Option Entry) (e : Entry) (f : Option Entry) (t : Bool)
    → or_else found (if t then Some e else f) ≡ or_else (or_else found (if t then Some e else None)) f
or-chain None e f true = refl
or-chain None e f false = refl
or-chain (Some d) e f t = refl

-- a scan goes on after a profile
scanned-more : (name : List ℕ) (count at : ℕ) (found : Option Entry) (p : Profile) (r : TableReading)
    → continued name count at found (add_profile p r) ≡ continued name (count + 1) (at + length (record_bytes p)) (found_here at name p found) r
unfolding add_profile found_from
scanned-more name count at found p (profiles ps) =
    let n : count + suc (length ps) ≡ count + 1 + length ps = omega arith in
    rw n (ap (λ f. Ok (scan (count + 1 + length ps) f)) (or-chain found (entry at p) (found_from (at + length (record_bytes p)) name ps) (same name p.name)))
scanned-more name count at found p (table_refused n) = refl

-- the name of the record at a place, as it is kept by its two ends
pub kept-name : (table : List ℕ) (at n : ℕ) → name_length_at (drop at table) ≡ n → take (at + 4 + n - (at + 4)) (drop (at + 4) table) ≡ name_at (drop at table)
kept-name table at n e =
    let k : at + 4 + n - (at + 4) ≡ name_length_at (drop at table) = omega (arith, e) in
    rw k (ap (take (name_length_at (drop at table))) (sym (drop-drop 4 at table)))

module _ (s : Shape) (table name : List ℕ) (at count n : ℕ) (found : Option Entry) (before : List ℕ) (r : IsNext s count before (drop at table) n) where
  -- how far a record reaches
  pub ahead : at < length table → at + record_length s n ≤ length table
  ahead some = omega (arith, reaches s (drop at table) r.is, r.named, length-drop at table)

  -- the scan after it
  pub further : continued name count at found (records_after s count before (drop at table))
      ≡ continued name (count + 1) (at + record_length s n) (found_here at name (profile_at s (drop at table)) found)
      (records_after s (count + 1) (name_at (drop at table)) (drop (at + record_length s n) table))
  further =
      let bs = drop at table in
      let size : length (record_bytes (profile_at s bs)) ≡ record_length s n = length-record s bs r.is ∙ ap (record_length s) r.named in
      ap (continued name count at found) r.reads
      ∙ scanned-more name count at found (profile_at s bs) (records_after s (count + 1) (name_at bs) (drop (record_length s n) bs))
      ∙ rw (size, drop-drop (record_length s n) at table)

-- what a step said of the part of the table that was lent
pub stepped : (s : Shape) (table before : List ℕ) (at count : ℕ) (r t : Result ℕ Refusal) → at < length table
    → r ≡ step_of s count before (take (length table - at) (drop at table)) → r ≡ t → Stepped s count before (drop at table) t
stepped s table before at count r t h e f =
    let lent : step_of s count before (take (length table - at) (drop at table)) ≡ step_of s count before (drop at table) =
    ap (step_of s count before) (part_to_end table at) in
    subst (Stepped s count before (drop at table)) (sym lent ∙ sym e ∙ f) (steps s count before (drop at table) (rw length-drop (omega arith)))

-- no record is left
none_left : (s : Shape) (room : ℕ) (before : List ℕ) → profiles_from s room before [] ≡ profiles []
unfolding profiles_from unless_end
none_left s zero before = refl
none_left s (suc room) before = refl

or-absent : (found : Option Entry) → or_else found None ≡ found
or-absent None = refl
or-absent (Some e) = refl

pub ended : (s : Shape) (table name before : List ℕ) (at count : ℕ) (found : Option Entry) → length table ≤ at
    → continued name count at found (records_after s count before (drop at table)) ≡ Ok (scan count found)
unfolding found_from
ended s table name before at count found h =
    rw (drop_of_length-le table {i = at} h, none_left s (profile_count - count) before, or-absent found, add-zero)
