-- What the name reader and the value reader, which call each other, find from a place of the payload on, and leave in
-- buffer and list.
use Rattle.std.specs.Prelude.{◌≡◌, true, false, Result, Err, List, [], ◌∷◌, ◌++◌, ℕ, suc, ◌+◌, ◌≤◌, length, drop}
use Rattle.telnet.specs.Event.{payload_limit}
use Rattle.env_variables.specs.declared.Held.{Held}
use Rattle.refusal.specs.declared.Refusal.{Refusal}
use Rattle.env_variables.specs.Internal.Found.{Buffers, Stored}
use Rattle.env_variables.specs.Internal.Texts.{mark_at}
use Rattle.env_text.specs.declared.Text.{Text}
use Rattle.env.specs.Variable.{Value, undefined, defined, Variable, variable, variable_limit}
use Rattle.env.specs.Fields.{text, broken, Field, name_field, value_field, Row, row_of}
use Rattle.env.specs.Read.{Found, variables, fault, names, expect_no_text}
use Rattle.env.specs.Numbers.{variable_record, numbers_of, list_limit, mark_of, bytes_of, packed, recorded}
use Rattle.refusal.specs.declared.Refusal.TheVariants.{NoVariable, BadEscape, ValueInValue}
use Rattle.octets.specs.Lent.{overwrite}

-- what the name reader finds, where there are k variables already
abbrev pub from_name : Refusal → (k : ℕ) → Row → Found
from_name wrong k r = expect_no_text r.front (names wrong k r.fields)

-- what the value reader finds: a value and the variables after it, or a fault
pub data Valued : Type 0 where
  valued : Value → List Variable → Valued
  bad_value : Refusal → Valued

unfoldable pub followed : Value → Found → Valued
followed v (variables vs) = valued v vs
followed v (fault e) = bad_value e

unfoldable pub from_value : ℕ → List Field → Valued
from_value k [] = followed undefined (names NoVariable (suc k) [])
from_value k (name_field kind t ∷ fs) = followed undefined (names NoVariable (suc k) (name_field kind t ∷ fs))
from_value k (value_field broken ∷ fs) = bad_value BadEscape
from_value k (value_field (text v) ∷ fs) = followed (defined v) (names ValueInValue (suc k) fs)

-- with the kind and the name before it
unfoldable pub completed : ℕ → List ℕ → Valued → Found
completed kind name (valued v vs) = variables (variable kind name v ∷ vs)
completed kind name (bad_value e) = fault e

-- the value after a name, undefined where there is no VALUE: broken, or whole and put at a place of the buffer, with
-- what the name reader finds after it
pub record IsValue (rest bytes₀ : List ℕ) (at : ℕ) (r : Text) (bytes : List ℕ) : Type 0 where
  pub value : Value
  pub bad : r.whole ≡ false → (k : ℕ) → from_value k (row_of rest).fields ≡ bad_value BadEscape
  pub good : r.whole ≡ true → (k : ℕ) → from_value k (row_of rest).fields ≡ followed value (from_name ValueInValue (k + 1) (row_of (drop r.end rest)))
  pub texts : r.whole ≡ true → bytes ≡ overwrite bytes₀ at (bytes_of value)
  pub mark : mark_at rest ≡ mark_of value
  pub count : r.length ≡ length (bytes_of value)
  pub forward : r.length ≤ r.end
  pub within : r.end ≤ length rest

-- after `at` bytes of the buffer there is room for all that is left of a payload, and the list has room for 64 records,
-- k of which are known
pub record HasRoom (rest : List ℕ) (at k : ℕ) (b : Buffers) : Type 0 where
  pub texts : at + length rest ≤ length b.bytes
  pub short : length b.bytes ≤ payload_limit
  pub records : list_limit ≤ length b.numbers
  pub count : k ≤ variable_limit

-- the same after a name of n bytes that is there already
unfoldable pub ValueRead : Valued → (kind at n k : ℕ) → Buffers → Result Held Refusal → Buffers → Type 0
ValueRead (bad_value e) kind at n k before r after = r ≡ Err e
ValueRead (valued v vs) kind at n k before r after =
    Stored (bytes_of v ++ packed vs)
    (numbers_of (variable_record kind at n (at + n) (length (bytes_of v)) (mark_of v)) ++ recorded (at + n + length (bytes_of v)) vs)
    (k + suc (length vs)) (at + n) k before r after
