-- What the search in a list of variable records answers.
use Rattle.std.specs.Prelude.{ℕ, Bool, ◌&&◌, List, [], ◌∷◌, Option, None, Some, eqb, if◌then◌else◌}
use Rattle.env.specs.declared.VariableRecord.{VariableRecord}
use Rattle.env_search.specs.declared.ValuePlace.{ValuePlace}
use Rattle.env.specs.Variable.{is}
use Rattle.env.specs.Numbers.{records_of, DEFINED, variable_of}

-- a record is of a kind and name over a buffer, and defined
unfoldable pub is_defined_of : ℕ → (name bytes : List ℕ) → VariableRecord → Bool
is_defined_of kind name bytes r = eqb r.mark DEFINED && is kind name (variable_of bytes r)

-- a place and a length
abbrev pub value_place : (at length : ℕ) → ValuePlace
value_place a n = record { at = a; length = n }

-- the place of the value of the first variable of a kind and name that is defined, over a buffer
unfoldable pub place_in : ℕ → (name bytes : List ℕ) → List VariableRecord → Option ValuePlace
place_in kind name bytes [] = None
place_in kind name bytes (r ∷ rs) =
    if is_defined_of kind name bytes r then Some (value_place r.value_at r.value_length) else place_in kind name bytes rs

-- among the records that numbers hold
unfoldable pub place_of : ℕ → (name bytes numbers : List ℕ) → Option ValuePlace
place_of kind name bytes numbers = place_in kind name bytes (records_of numbers)
