-- Searching a list of records: what record i and the records after it give those from i on. Assumes nothing.
use Rattle.std.specs.Prelude.{if◌then◌else◌, None, Some}
use mathlib.Core.Path.{◌≡◌, sym, ap, ◌∙◌}
use mathlib.Core.Bool.{Bool, false, ◌||◌}
use mathlib.Core.List.{List}
use Prim.Native.Nat.{ℕ, ◌+◌, ◌*◌, ◌/◌, ◌≤◌, ◌<◌}
use lib.ListN.{length, drop}
use Rattle.env_search.specs.Places.{is_defined_of, value_place, place_in, place_of}
use Rattle.env_records.specs.Records.{record_at}
use Rattle.env_records.proofs.Steps.{none_left, record-step, held-step, held-end}
use Rattle.env.specs.declared.VariableRecord.{VariableRecord}
use Rattle.env.specs.Variable.{is, among, repeated}
use Rattle.env.specs.Numbers.{record_width, variable_of, variables_held}

pub among-step : (kind : ℕ) (name bytes l : List ℕ) (i : ℕ) → i < length l / record_width
    → among kind name (variables_held bytes (drop (record_width * i) l))
    ≡ (is kind name (variable_of bytes (record_at l i)) || among kind name (variables_held bytes (drop (record_width * (i + 1)) l)))
unfolding among
among-step kind name bytes l i h = ap (among kind name) (held-step bytes l i h)

pub among-end : (kind : ℕ) (name bytes l : List ℕ) (i : ℕ) → length l / record_width ≤ i → among kind name (variables_held bytes (drop (record_width * i) l)) ≡ false
unfolding among
among-end kind name bytes l i h = ap (among kind name) (held-end bytes l i h)

pub repeated-step : (bytes l : List ℕ) (i : ℕ) → i < length l / record_width
    → let v = variable_of bytes (record_at l i) in
    repeated (variables_held bytes (drop (record_width * i) l))
    ≡ (among v.kind v.name (variables_held bytes (drop (record_width * (i + 1)) l)) || repeated (variables_held bytes (drop (record_width * (i + 1)) l)))
unfolding repeated
repeated-step bytes l i h = ap repeated (held-step bytes l i h)

pub repeated-end : (bytes l : List ℕ) (i : ℕ) → length l / record_width ≤ i → repeated (variables_held bytes (drop (record_width * i) l)) ≡ false
unfolding repeated
repeated-end bytes l i h = ap repeated (held-end bytes l i h)

pub place-step : (kind : ℕ) (name bytes l : List ℕ) (i : ℕ) → i < length l / record_width
    → let r = record_at l i in
    place_of kind name bytes (drop (record_width * i) l)
    ≡ (if is_defined_of kind name bytes r then Some (value_place r.value_at r.value_length) else place_of kind name bytes (drop (record_width * (i + 1)) l))
unfolding place_of place_in
place-step kind name bytes l i h = ap (place_in kind name bytes) (record-step l i h)

pub place_end : (kind : ℕ) (name bytes l : List ℕ) (i : ℕ) → length l / record_width ≤ i → place_of kind name bytes (drop (record_width * i) l) ≡ None
unfolding place_of place_in
place_end kind name bytes l i h = ap (place_in kind name bytes) (none_left l i h)

-- what a test of a record that was read from the list says of record i
pub tested : (test : VariableRecord → Bool) (l : List ℕ) (i : ℕ) (r : VariableRecord) (t s : Bool) → r ≡ record_at l i → t ≡ test r → t ≡ s
    → test (record_at l i) ≡ s
tested test l i r t s read said e = ap test (sym read) ∙ sym said ∙ e
