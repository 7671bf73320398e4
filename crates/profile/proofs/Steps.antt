-- The reading of records one by one: what each test decides, at the front of bytes. Assumes nothing.
use mathlib.Core.Path.{◌≡◌, refl}
use mathlib.Core.Bool.{true, false}
use mathlib.Core.List.{List, [], ◌∷◌}
use Prim.Native.Nat.{ℕ, zero, suc, ◌+◌, ◌<◌}
use native.Mathlib.Omega.{arith}
use lib.ListN.{length, drop}
use Rattle.names.specs.Order.{precedes}
use Rattle.refusal.specs.declared.Refusal.TheVariants.{BadProfile, ProfilesNotAscending}
use Rattle.profile.specs.Profile.{Shape, record_length}
use Rattle.profile.specs.Table.{name_length_at, name_at, profile_at, is_record, TableReading, table_refused, add_profile, unless_end, profiles_from}

pub not_end : (bs : List ℕ) (r : TableReading) → 0 < length bs → unless_end bs r ≡ r
unfolding unless_end
not_end [] r h = absurd (omega arith)
not_end (b ∷ bs) r h = refl

module _ (s : Shape) (before bs : List ℕ) (some : 0 < length bs) where
  pub malformed : (room : ℕ) → is_record s bs ≡ false → profiles_from s room before bs ≡ table_refused BadProfile
  unfolding profiles_from
  malformed zero bad = rw (not_end bs _ some, bad)
  malformed (suc room) bad = rw (not_end bs _ some, bad)

  pub too_many : is_record s bs ≡ true → profiles_from s zero before bs ≡ table_refused ProfilesNotAscending
  unfolding profiles_from
  too_many good = rw (not_end bs _ some, good)

  pub not-ascending : (room : ℕ) → is_record s bs ≡ true → precedes before (name_at bs) ≡ false → profiles_from s room before bs ≡ table_refused ProfilesNotAscending
  unfolding profiles_from
  not-ascending zero good wrong = rw (not_end bs _ some, good)
  not-ascending (suc room) good wrong = rw (not_end bs _ some, good, wrong)

  pub one_more : (room : ℕ) → is_record s bs ≡ true → precedes before (name_at bs) ≡ true
      → profiles_from s (suc room) before bs
      ≡ add_profile (profile_at s bs) (profiles_from s room (name_at bs) (drop (record_length s (name_length_at bs)) bs))
  unfolding profiles_from
  one_more room good right = rw (not_end bs _ some, good, right)
