-- The laws by which the writer walks a list of records: what a good record says, and its variable, before those after
-- it. Assumes nothing.
use mathlib.Core.Path.{◌≡◌, refl, sym, ap, ◌∙◌}
use mathlib.Core.Bool.{Bool, true, false, ◌&&◌, ◌||◌}
use mathlib.Core.List.{List, [], ◌∷◌, ◌++◌}
use Prim.Native.Nat.{ℕ, ◌+◌, ◌-◌, ◌*◌, ◌/◌, ◌≤◌, ◌<◌}
use native.Mathlib.Omega.{arith}
use lib.Dec.{eqb}
use lib.ListN.{length, take, drop, length-append, length-take, length-drop}
use borrow.Author.Tests.{eq-eqb, ne_eqb, eqb-true, leb-true}
use Rattle.env.specs.Variable.{VAR, ESC, USERVAR, is_kind}
use Rattle.env.specs.Write.{escaped, written_value, written_variable, written_variables, is_empty, nameless}
use Rattle.env.specs.Numbers.{record_width, variable_of, variables_held, fits, is_placed, placed}
use Rattle.octets.specs.Part.{part}
use Rattle.env.specs.declared.VariableRecord.{VariableRecord}
use Rattle.env_records.specs.Records.{record_at}
use Rattle.env_records.proofs.Steps.{held-step, held-end, placed-step}
use Rattle.octets_marked.specs.Marked.{marked}
use Rattle.env_writer.proofs.Writing.{escaped-marked}

both : (a b : Bool) → (a && b) ≡ true → (a ≡ true) × (b ≡ true)
both true b e = (refl, e)
both false b e = (e, cc)

kind-small : (k : ℕ) → is_kind k ≡ true → k ≤ 3
unfolding is_kind
kind-small k = go (eqb k VAR) refl
  where
    go : (t : Bool) → eqb k VAR ≡ t → (t || eqb k USERVAR) ≡ true → k ≤ 3
    go true f e = omega (arith, eqb-true k VAR f)
    go false f e = omega (arith, eqb-true k USERVAR e)

-- a good record: its kind is a byte, and its name and value are in the buffer
pub record Within (bytes : List ℕ) (r : VariableRecord) : Type 0 where
  pub kind : r.kind ≤ 3
  pub name : r.name_at + r.name_length ≤ length bytes
  pub value : r.value_at + r.value_length ≤ length bytes

pub within : (bytes : List ℕ) (r : VariableRecord) → is_placed bytes r ≡ true → Within bytes r
unfolding fits
within bytes r e =
    let places = both (is_kind r.kind) _ e in
    let texts = both (fits bytes r.name_at r.name_length) _ places.1 in
    let value = both (fits bytes r.value_at r.value_length) _ texts.1 in
    record { kind = kind-small r.kind places.0; name = leb-true _ _ texts.0; value = leb-true _ _ value.0 }

-- a part of the buffer as it is lent, by its two ends, and what it takes
lent-part : (bytes : List ℕ) (at n : ℕ) → take (at + n - at) (drop at bytes) ≡ part bytes at n
unfolding part
lent-part bytes at n =
    let e : at + n - at ≡ n = omega arith in
    rw e

pub lent-size : (bytes : List ℕ) (at n : ℕ) → length (escaped (take (at + n - at) (drop at bytes))) ≡ length (escaped (part bytes at n))
lent-size bytes at n = ap (λ l. length (escaped l)) (lent-part bytes at n)

pub lent-marked : (bytes : List ℕ) (at n : ℕ) → escaped (part bytes at n) ≡ marked ESC 0 3 (take (at + n - at) (drop at bytes))
lent-marked bytes at n = escaped-marked (part bytes at n) ∙ ap (marked ESC 0 3) (sym (lent-part bytes at n))

-- a part that is in the buffer is empty where its length is 0
pub empty-part : (bytes : List ℕ) (at n : ℕ) → at + n ≤ length bytes → is_empty (part bytes at n) ≡ eqb n 0
unfolding part is_empty
empty-part bytes at n h = go (part bytes at n) (simp (length-take, length-drop) (omega arith))
  where
    go : (l : List ℕ) → length l ≡ n → is_empty l ≡ eqb n 0
    go [] e = sym (eq-eqb n 0 (sym e))
    go (b ∷ l) e = sym (ne_eqb n 0 (λ z. omega arith))

pub length-written : (bytes : List ℕ) (r : VariableRecord)
    → length (written_variable (variable_of bytes r))
    ≡ 1 + length (escaped (part bytes r.name_at r.name_length)) + length (written_value (variable_of bytes r).value)
unfolding written_variable
length-written bytes r = simp length-append (omega arith)

module _ (bytes l : List ℕ) (i : ℕ) where
  -- the records from i on are good where record i is, and those after it are
  pub good-from : i < length l / record_width → placed bytes (drop (record_width * i) l) ≡ true
      → (is_placed bytes (record_at l i) ≡ true) × (placed bytes (drop (record_width * (i + 1)) l) ≡ true)
  good-from h e = both _ _ (sym (placed-step bytes l i h) ∙ e)

  -- the variables from record i on
  pub written_from : i < length l / record_width
      → written_variables (variables_held bytes (drop (record_width * i) l)) ≡ written_variable (variable_of bytes (record_at l i)) ++ written_variables (variables_held bytes (drop (record_width * (i + 1)) l))
  unfolding written_variables
  written_from h = ap written_variables (held-step bytes l i h)

  pub length-written-from : i < length l / record_width
      → length (written_variables (variables_held bytes (drop (record_width * i) l)))
      ≡ length (written_variable (variable_of bytes (record_at l i))) + length (written_variables (variables_held bytes (drop (record_width * (i + 1)) l)))
  length-written-from h = ap length (written_from h) ∙ length-append (written_variable (variable_of bytes (record_at l i))) _

  pub written_none : length l / record_width ≤ i → written_variables (variables_held bytes (drop (record_width * i) l)) ≡ []
  unfolding written_variables
  written_none h = ap written_variables (held-end bytes l i h)

  -- one of them is nameless: record i, or one after it
  pub nameless-from : i < length l / record_width → placed bytes (drop (record_width * i) l) ≡ true
      → nameless (variables_held bytes (drop (record_width * i) l)) ≡ (eqb (record_at l i).name_length 0 || nameless (variables_held bytes (drop (record_width * (i + 1)) l)))
  unfolding nameless
  nameless-from h e =
      let r = record_at l i in
      ap nameless (held-step bytes l i h)
      ∙ ap (λ t. t || nameless (variables_held bytes (drop (record_width * (i + 1)) l)))
      (empty-part bytes r.name_at r.name_length (within bytes r (good-from h e).0).name)

  pub nameless-none : length l / record_width ≤ i → nameless (variables_held bytes (drop (record_width * i) l)) ≡ false
  unfolding nameless
  nameless-none h = ap nameless (held-end bytes l i h)
