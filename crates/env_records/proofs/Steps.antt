-- Walking a list of records: record i, the variables of the records from it on, and that they are well placed. Assumes
-- nothing.
use mathlib.Core.Path.{◌≡◌, sym, ap, ◌∙◌}
use mathlib.Core.Bool.{true, ◌&&◌}
use mathlib.Core.List.{List, [], ◌∷◌, map}
use Prim.Native.Nat.{ℕ, ◌+◌, ◌*◌, ◌/◌, ◌≤◌, ◌<◌}
use native.Mathlib.Nat.{add-zero}
use native.Mathlib.Omega.{arith}
use lib.ListN.{length, get_or, drop, length-drop}
use lib.Seq.{get_or-drop, drop-drop}
use Rattle.env_records.specs.Records.{blank, record_at}
use Rattle.env.proofs.Records.{records-short, records-next, records-from}
use Rattle.env.specs.Numbers.{record_width, record_in, records_of, variable_of, variables_held, is_placed, all_placed, placed}

pub none_left : (l : List ℕ) (i : ℕ) → length l / record_width ≤ i → records_of (drop (record_width * i) l) ≡ []
none_left l i h = records-short (drop (record_width * i) l) (rw length-drop (omega arith))

some_left : (l : List ℕ) (i : ℕ) → i < length l / record_width
    → records_of (drop (record_width * i) l) ≡ record_in (drop (record_width * i) l) ∷ records_of (drop (record_width * (i + 1)) l)
some_left l i h =
    let e : record_width * i + record_width ≡ record_width * (i + 1) = omega arith in
    rw (drop-drop, e) at (records-next (drop (record_width * i) l) (rw length-drop (omega arith)))

-- record i is the first of those from i on
record-first : (l : List ℕ) (i : ℕ) → record_at l i ≡ get_or (records_of (drop (record_width * i) l)) 0 blank
record-first l i =
    sym (get_or-drop i (records_of l) 0 blank ∙ ap (λ n. get_or (records_of l) n blank) (add-zero i)) ∙ ap (λ rs. get_or rs 0 blank) (sym (records-from l i))

-- a record past the end
pub record-past : (l : List ℕ) (i : ℕ) → length l / record_width ≤ i → record_at l i ≡ blank
record-past l i h = record-first l i ∙ ap (λ rs. get_or rs 0 blank) (none_left l i h)

-- a record of the list, by the numbers from its place on
pub record_of : (l : List ℕ) (i : ℕ) → i < length l / record_width → record_at l i ≡ record_in (drop (record_width * i) l)
record_of l i h = record-first l i ∙ ap (λ rs. get_or rs 0 blank) (some_left l i h)

-- the records from i on are record i and those from i + 1 on
pub record-step : (l : List ℕ) (i : ℕ) → i < length l / record_width
    → records_of (drop (record_width * i) l) ≡ record_at l i ∷ records_of (drop (record_width * (i + 1)) l)
record-step l i h = rw (record_of l i h) (some_left l i h)

pub held-step : (bytes l : List ℕ) (i : ℕ) → i < length l / record_width
    → variables_held bytes (drop (record_width * i) l) ≡ variable_of bytes (record_at l i) ∷ variables_held bytes (drop (record_width * (i + 1)) l)
unfolding variables_held
held-step bytes l i h = ap (map (variable_of bytes)) (record-step l i h)

pub held-end : (bytes l : List ℕ) (i : ℕ) → length l / record_width ≤ i → variables_held bytes (drop (record_width * i) l) ≡ []
unfolding variables_held
held-end bytes l i h = ap (map (variable_of bytes)) (none_left l i h)

pub placed-step : (bytes l : List ℕ) (i : ℕ) → i < length l / record_width
    → placed bytes (drop (record_width * i) l) ≡ (is_placed bytes (record_at l i) && placed bytes (drop (record_width * (i + 1)) l))
unfolding placed all_placed
placed-step bytes l i h = ap (all_placed bytes) (record-step l i h)

pub placed_end : (bytes l : List ℕ) (i : ℕ) → length l / record_width ≤ i → placed bytes (drop (record_width * i) l) ≡ true
unfolding placed all_placed
placed_end bytes l i h = ap (all_placed bytes) (none_left l i h)
