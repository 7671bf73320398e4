-- A lent list of variable records, as a list of structs.
use Rattle.std.specs.Prelude.{ℕ, suc, Bool, true, false, List, ltb, length, set, if◌then◌else◌}
use Rattle.env.specs.declared.VariableRecord.{VariableRecord}

-- what a function answers and leaves in the list that it is lent
pub record Listing (A : Type 0) : Type 0 where
  pub answer : A
  pub records : List VariableRecord

abbrev pub listing : {A : Type 0} → A → List VariableRecord → Listing A
listing a l = record { answer = a; records = l }

-- record i of a list, set; where the list has no such place a refusal, and the list is as it was
unfoldable pub set_at : List VariableRecord → ℕ → VariableRecord → Listing Bool
set_at list i v = if ltb i (length list) then listing true (set list i v) else listing false list
