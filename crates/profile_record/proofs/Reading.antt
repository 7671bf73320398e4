-- What a step says of the reading of the records from there on. Assumes nothing.
use Rattle.std.specs.Prelude.{Result, Ok, Err}
use mathlib.Core.Path.{◌≡◌, refl}
use mathlib.Core.Bool.{Bool, true, false, not}
use mathlib.Core.List.{List}
use Prim.Native.Nat.{ℕ, suc, ◌+◌, ◌-◌, ◌≤◌, ◌<◌}
use native.Mathlib.Omega.{arith}
use borrow.Author.Tests.{not-true, not-false, leb-true, leb-false}
use lib.Dec.{leb}
use lib.ListN.{length, drop}
use Rattle.octets.proofs.Choice.{choice}
use Rattle.refusal.specs.declared.Refusal.{Refusal}
use Rattle.refusal.specs.declared.Refusal.TheVariants.{ProfilesNotAscending}
use Rattle.names.specs.Order.{precedes}
use Rattle.profile.specs.Profile.{Shape, record_length}
use Rattle.profile.specs.Table.{profile_count, name_length_at, name_at, profile_at, is_record, TableReading, table_refused, add_profile, profiles_from}
use Rattle.profile.proofs.Steps.{malformed, too_many, not-ascending, one_more}
use Rattle.profile_record.specs.Step.{step_of}

-- what the records of bytes say, after `count` profiles and the name of the last of them
abbrev pub records_after : Shape → (count : ℕ) (before bs : List ℕ) → TableReading
records_after s count before bs = profiles_from s (profile_count - count) before bs

-- a record with a name of n bytes is at the front, and others after it
pub record IsNext (s : Shape) (count : ℕ) (before bs : List ℕ) (n : ℕ) : Type 0 where
  pub few : count < profile_count
  pub is : is_record s bs ≡ true
  pub named : name_length_at bs ≡ n
  pub reads : records_after s count before bs
      ≡ add_profile (profile_at s bs) (records_after s (count + 1) (name_at bs) (drop (record_length s n) bs))

-- a step: a record, or the refusal of all
abbrev pub Stepped : Shape → (count : ℕ) (before bs : List ℕ) → Result ℕ Refusal → Type 0
Stepped s count before bs (Ok n) = IsNext s count before bs n
Stepped s count before bs (Err e) = records_after s count before bs ≡ table_refused e

module _ (s : Shape) (count : ℕ) (before bs : List ℕ) (some : 0 < length bs) where
  one-too-many : profile_count ≤ count → is_record s bs ≡ true → Stepped s count before bs (Err ProfilesNotAscending)
  one-too-many h good = let none : profile_count - count ≡ 0 = omega arith in rw none (too_many s before bs some good)

  next : count < profile_count → is_record s bs ≡ true → precedes before (name_at bs) ≡ true → IsNext s count before bs (name_length_at bs)
  next few good right =
      let room : profile_count - count ≡ suc (profile_count - (count + 1)) = omega arith in
      record { few = few; is = good; named = refl; reads = rw room (one_more s before bs some (profile_count - (count + 1)) good right) }

  -- where bytes are left, a step is what they begin with
  pub steps : Stepped s count before bs (step_of s count before bs)
  unfolding step_of
  steps =
      choice (Stepped s count before bs) (not (is_record s bs))
      (λ bad. malformed s before bs some (profile_count - count) (not-true _ bad))
      (λ record-there.
      let good = not-false (is_record s bs) record-there in
      choice (Stepped s count before bs) (leb profile_count count)
      (λ full. one-too-many (leb-true profile_count count full) good)
      (λ left.
      choice (Stepped s count before bs) (not (precedes before (name_at bs)))
      (λ wrong. not-ascending s before bs some (profile_count - count) good (not-true _ wrong))
      (λ right. next (leb-false profile_count count left) good (not-false _ right))))
