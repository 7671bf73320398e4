-- The records that numbers hold, one after the other: the laws by which every other proof goes, so that none unfolds
-- `records_of`. Assumes nothing.
use mathlib.Core.Path.{◌≡◌, refl, ap, ◌∙◌}
use mathlib.Core.List.{List, [], ◌∷◌, ◌++◌}
use mathlib.Core.Logic.{⊎_elim}
use Prim.Native.Nat.{ℕ, zero, suc, ◌+◌, ◌*◌, ◌/◌, ◌≤◌, ◌<◌}
use native.Mathlib.Omega.{arith}
use lib.ListN.{length, drop, length-drop}
use lib.Seq.{drop-drop}
use Rattle.octets.proofs.Order.{below-or-above}
use Rattle.env.specs.declared.VariableRecord.{VariableRecord}
use Rattle.env.specs.Numbers.{record_width, numbers_of, record_in, records_from, records_of}

length_from : (k : ℕ) (l : List ℕ) → length (records_from k l) ≡ k
unfolding records_from
length_from zero l = refl
length_from (suc k) l = omega (arith, length_from k (drop record_width l))

-- how many records numbers hold
pub length-records : (l : List ℕ) → length (records_of l) ≡ length l / record_width
unfolding records_of
length-records l = length_from (length l / record_width) l

-- too few numbers hold no record
pub records-short : (l : List ℕ) → length l < record_width → records_of l ≡ []
unfolding records_of records_from
records-short l h =
    let none : length l / record_width ≡ 0 = omega arith in
    rw none

-- enough numbers hold the record at their front, and those of the numbers after it
pub records-next : (l : List ℕ) → record_width ≤ length l → records_of l ≡ record_in l ∷ records_of (drop record_width l)
unfolding records_of records_from
records-next l h =
    let fewer : length l / record_width ≡ suc (length (drop record_width l) / record_width) = rw length-drop (omega arith) in
    rw fewer

-- a record's own numbers before others hold it, and what the others hold
pub records-cons : (r : VariableRecord) (l : List ℕ) → records_of (numbers_of r ++ l) ≡ r ∷ records_of l
records-cons r l = records-next (numbers_of r ++ l) (omega arith)

-- and so whatever is known of what the others hold
pub records-before : (r : VariableRecord) (l : List ℕ) {rs : List VariableRecord} → records_of l ≡ rs → records_of (numbers_of r ++ l) ≡ r ∷ rs
records-before r l e = records-cons r l ∙ ap (λ rs. r ∷ rs) e

-- the records of the numbers from record i on are the records from i on
pub records-from : (l : List ℕ) (i : ℕ) → records_of (drop (record_width * i) l) ≡ drop i (records_of l)
records-from l zero = refl
records-from l (suc i) = ⊎_elim
    (λ h. rw (records-short l h) (records-short (drop (record_width * suc i) l) (rw length-drop (omega arith))))
    (λ h.
    let e : record_width * suc i ≡ record_width + record_width * i = omega arith in
    rw (records-next l h, e, ← drop-drop (record_width * i) record_width l) (records-from (drop record_width l) i))
    (below-or-above (length l) record_width)
