-- The variables of a list of records by their number. Assumes nothing.
use mathlib.Core.Path.{◌≡◌, refl, sym, ap, ◌∙◌}
use mathlib.Core.List.{List, [], ◌∷◌, map}
use Prim.Native.Nat.{ℕ, zero, suc, ◌*◌, ◌/◌, ◌<◌}
use native.Mathlib.Nat.{add-zero}
use native.Mathlib.Omega.{arith}
use lib.ListN.{length, get_or, drop}
use lib.Seq.{get_or-drop}
use Rattle.env_records.specs.Records.{record_at}
use Rattle.env_records.proofs.Steps.{held-step}
use Rattle.env.proofs.Records.{records-from, length-records}
use Rattle.env.specs.declared.VariableRecord.{VariableRecord}
use Rattle.env.specs.Variable.{Variable}
use Rattle.env.specs.Numbers.{record_width, records_of, variable_of, variables_held}

-- the variables from i on are those of the records from i on
pub held-from : (bytes l : List ℕ) (i : ℕ) → drop i (variables_held bytes l) ≡ variables_held bytes (drop (record_width * i) l)
unfolding variables_held
held-from bytes l i = drop-map i (records_of l) ∙ ap (map (variable_of bytes)) (sym (records-from l i))
  where
    drop-map : (i : ℕ) (rs : List VariableRecord) → drop i (map (variable_of bytes) rs) ≡ map (variable_of bytes) (drop i rs)
    drop-map zero rs = refl
    drop-map (suc i) [] = refl
    drop-map (suc i) (r ∷ rs) = drop-map i rs

-- variable i is the variable of record i
pub held_at : (bytes l : List ℕ) (i : ℕ) (d : Variable) → i < length l / record_width → get_or (variables_held bytes l) i d ≡ variable_of bytes (record_at l i)
held_at bytes l i d h =
    let e : get_or (drop i (variables_held bytes l)) 0 d ≡ get_or (variables_held bytes l) i d = get_or-drop i (variables_held bytes l) 0 d ∙ ap (λ n. get_or (variables_held bytes l) n d) (add-zero i) in
    sym e ∙ ap (λ vs. get_or vs 0 d) (held-from bytes l i ∙ held-step bytes l i h)

-- a variable for each record
pub length-held : (bytes l : List ℕ) → length (variables_held bytes l) ≡ length l / record_width
unfolding variables_held
length-held bytes l = mapped (records_of l) ∙ length-records l
  where
    mapped : (rs : List VariableRecord) → length (map (variable_of bytes) rs) ≡ length rs
    mapped [] = refl
    mapped (r ∷ rs) = omega (arith, mapped rs)
