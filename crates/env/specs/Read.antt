-- Reading a payload: what it says, or why it is refused (specification, "Environment strings" and
-- "Refusal numbers" 3, 20 to 25: 3 before 20, then the first fault met from left to right, 25 after all those).
use Rattle.std.specs.Prelude.{ℕ, suc, List, [], ◌∷◌, ltb, length, if◌then◌else◌}
use Rattle.env.specs.Variable.{undefined, defined, Variable, variable, variable_limit, is_first, repeated}
use Rattle.env.specs.Fields.{Text, text, broken, Field, name_field, value_field, Row, row_of}
use Rattle.telnet.specs.Event.{payload_limit}
use Rattle.refusal.specs.declared.Refusal.{Refusal}
use Rattle.refusal.specs.declared.Refusal.TheVariants.{PayloadTooLong, NotIsOrInfo, NoVariable, BadEscape, ValueInValue, TooManyVariables, RepeatedVariable}

-- variables in their order, or the first fault
pub data Found : Type 0 where
  variables : List Variable → Found
  fault : Refusal → Found

-- A variable with those found after it. A fault after it is the fault of all: it decides no number.
unfoldable pub add_variable : Variable → Found → Found
add_variable v (variables vs) = variables (v ∷ vs)
add_variable v (fault e) = fault e

-- A variable opens where there are k already. Decides 24, before anything of that variable is looked at.
unfoldable pub limited : ℕ → Found → Found
limited k found = if ltb k variable_limit then found else fault TooManyVariables

-- What is found with a name or a value that has no bad ESC. Decides 22.
unfoldable pub whole : Text → (List ℕ → Found) → Found
whole broken found = fault BadEscape
whole (text bs) found = found bs

-- What is found with a name, which is not empty. Decides 21 for a name, once it is known to be whole.
unfoldable pub named : (List ℕ → Found) → List ℕ → Found
named found [] = fault NoVariable
named found (b ∷ bs) = found (b ∷ bs)

-- The variables of fields, where there are k already. A VALUE where a name should be is refused as given: by 21
-- before the first variable and after one without a value, by 23 after a value. Else a name is there, and after it its
-- value, or nothing more or the next name, and it is undefined; from left to right its 24, 22 and 21 come first, then
-- its value's 22, then what is after it.
unfoldable pub names : Refusal → (k : ℕ) → List Field → Found
names wrong k [] = variables []
names wrong k (value_field t ∷ fs) = fault wrong
names wrong k (name_field kind t ∷ value_field u ∷ fs) =
    limited k (whole t (named (λ name. whole u (λ value. add_variable (variable kind name (defined value)) (names ValueInValue (suc k) fs)))))
names wrong k (name_field kind t ∷ []) = limited k (whole t (named (λ name. add_variable (variable kind name undefined) (variables []))))
names wrong k (name_field kind t ∷ name_field kind₂ u ∷ fs) =
    limited k (whole t (named (λ name. add_variable (variable kind name undefined) (names NoVariable (suc k) (name_field kind₂ u ∷ fs)))))

-- Where a variable is expected there is no text, nor an ESC. Decides 21 for what comes before the first.
unfoldable pub expect_no_text : Text → Found → Found
expect_no_text broken found = fault NoVariable
expect_no_text (text []) found = found
expect_no_text (text (b ∷ bs)) found = fault NoVariable

-- the variables of a row: no text before the first, then field after field
unfoldable pub variables_of : Row → Found
variables_of r = expect_no_text r.front (names NoVariable 0 r.fields)

-- what a payload says: its first byte and its variables, or why it is refused
pub data Reading : Type 0 where
  says : ℕ → List Variable → Reading
  not_read : Refusal → Reading

-- No kind and name twice. Decides 25, after every fault further left or right.
unfoldable pub distinct : ℕ → Found → Reading
distinct first (fault e) = not_read e
distinct first (variables vs) = if repeated vs then not_read RepeatedVariable else says first vs

-- A payload of at most 1,024 bytes. Decides 20 by its first byte; the rest is read as fields.
unfoldable pub begun : List ℕ → Reading
begun [] = not_read NotIsOrInfo
begun (b ∷ bs) = if is_first b then distinct b (variables_of (row_of bs)) else not_read NotIsOrInfo

-- A payload. Decides 3 before anything is looked at.
unfoldable pub reading_of : List ℕ → Reading
reading_of p = if ltb payload_limit (length p) then not_read PayloadTooLong else begun p
