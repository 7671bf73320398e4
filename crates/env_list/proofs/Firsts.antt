-- The first records that a list of numbers holds, before the rest of a list of records. Assumes nothing.
use mathlib.Core.Path.{◌≡◌, refl, sym, ◌∙◌}
use mathlib.Core.List.{List, ◌++◌}
use Prim.Native.Nat.{ℕ, zero, suc, ◌+◌, ◌≤◌, ◌<◌}
use native.Mathlib.Numerals.{add-one}
use native.Mathlib.Omega.{arith}
use lib.ListN.{length, set, take, drop, length-append, length-drop}
use lib.Seq.{drop-cons, set_at, append_snoc, take-suc}
use Rattle.env.specs.Numbers.{records_of}
use Rattle.env_list.specs.Internal.Firsts.{first_records}
use Rattle.env.specs.declared.VariableRecord.{VariableRecord}
use Rattle.env_records.specs.Records.{blank, record_at}

pub length-firsts : (numbers : List ℕ) (n : ℕ) → length (first_records numbers n) ≡ n
unfolding first_records
length-firsts numbers zero = refl
length-firsts numbers (suc n) = rw (length-append, length-firsts numbers n) (omega arith)

-- the first records are the front of all
pub firsts-front : (numbers : List ℕ) (n : ℕ) → n ≤ length (records_of numbers) → first_records numbers n ≡ take n (records_of numbers)
unfolding first_records
firsts-front numbers zero h = refl
firsts-front numbers (suc n) h = rw (firsts-front numbers n (omega arith)) (sym (take-suc (records_of numbers) n blank h))

-- the list once the first k records are set
abbrev pub begun : List ℕ → ℕ → List VariableRecord → List VariableRecord
begun numbers k l = first_records numbers k ++ drop k l

pub length-begun : (numbers : List ℕ) (k : ℕ) (l : List VariableRecord) → k ≤ length l → length (begun numbers k l) ≡ length l
length-begun numbers k l h = rw (length-append, length-firsts numbers k, length-drop) (omega arith)

-- one more record is set
pub begun_more : (numbers : List ℕ) (k : ℕ) (l : List VariableRecord) → k < length l → set (begun numbers k l) k (record_at numbers k) ≡ begun numbers (k + 1) l
unfolding first_records
begun_more numbers k l h =
    rw (add-one, drop-cons l k blank h)
    (set_at (first_records numbers k) _ (drop (suc k) l) (record_at numbers k) k (length-firsts numbers k) ∙ sym
    (append_snoc (first_records numbers k) (record_at numbers k) (drop (suc k) l)))
