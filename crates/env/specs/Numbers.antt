-- Variables as the code holds them: names and values in a buffer, and a list of variable records (the specification's
-- own term), each with the kind, place and length of the name, place and length of the value, and the mark of the value
-- (change request No. 3). The list is one of numbers, `record_width` for each record.
use Rattle.std.specs.Prelude.{ℕ, zero, suc, ◌+◌, ◌*◌, ◌/◌, Bool, true, ◌||◌, ◌&&◌, List, [], ◌∷◌, ◌++◌, map, eqb, leb, length, get_or, drop, if◌then◌else◌}
use Rattle.octets.specs.Part.{part}
use Rattle.env.specs.declared.VariableRecord.{VariableRecord}
use Rattle.env.specs.Variable.{Value, undefined, defined, Variable, variable, is_kind, variable_limit}

-- how many numbers a record takes
abbrev pub record_width : ℕ
record_width = 6

-- the most numbers that the records of a payload take
abbrev pub list_limit : ℕ
list_limit = record_width * variable_limit

-- a record of its numbers
abbrev pub variable_record : (kind name_at name_length value_at value_length mark : ℕ) → VariableRecord
variable_record k a n b m u = record { kind = k; name_at = a; name_length = n; value_at = b; value_length = m; mark = u }

-- the numbers of a record
abbrev pub numbers_of : VariableRecord → List ℕ
numbers_of r = r.kind ∷ r.name_at ∷ r.name_length ∷ r.value_at ∷ r.value_length ∷ r.mark ∷ []

-- the record at the front of numbers; a number that is missing is 0
abbrev pub record_in : List ℕ → VariableRecord
record_in numbers =
    variable_record (get_or numbers 0 0) (get_or numbers 1 0) (get_or numbers 2 0) (get_or numbers 3 0) (get_or numbers 4 0) (get_or numbers 5 0)

-- the first k records of numbers
unfoldable pub records_from : ℕ → List ℕ → List VariableRecord
records_from zero numbers = []
records_from (suc k) numbers = record_in numbers ∷ records_from k (drop record_width numbers)

-- the records that numbers hold; what is left when they are too few for another is no record
unfoldable pub records_of : List ℕ → List VariableRecord
records_of numbers = records_from (length numbers / record_width) numbers

-- the mark of a record: whether its variable is defined
abbrev pub DEFINED : ℕ
DEFINED = 0

abbrev pub UNDEFINED : ℕ
UNDEFINED = 1

-- the mark of a value, and its bytes
unfoldable pub mark_of : Value → ℕ
mark_of undefined = UNDEFINED
mark_of (defined value) = DEFINED

unfoldable pub bytes_of : Value → List ℕ
bytes_of undefined = []
bytes_of (defined value) = value

-- the value of a mark and bytes: any mark but DEFINED reads as undefined
unfoldable pub value_by : (mark : ℕ) → List ℕ → Value
value_by mark bytes = if eqb mark DEFINED then defined bytes else undefined

-- names and values back to back
unfoldable pub packed : List Variable → List ℕ
packed [] = []
packed (v ∷ vs) = v.name ++ (bytes_of v.value ++ packed vs)

-- the numbers of the records of variables that are packed from a place on
unfoldable pub recorded : ℕ → List Variable → List ℕ
recorded at [] = []
recorded at (v ∷ vs) =
    numbers_of (variable_record v.kind at (length v.name) (at + length v.name) (length (bytes_of v.value)) (mark_of v.value))
    ++ recorded (at + length v.name + length (bytes_of v.value)) vs

-- the variable of a record over a buffer
abbrev pub variable_of : List ℕ → VariableRecord → Variable
variable_of bytes r =
    variable r.kind (part bytes r.name_at r.name_length) (value_by r.mark (part bytes r.value_at r.value_length))

-- the variables that records have over a buffer
unfoldable pub variables_held : (bytes numbers : List ℕ) → List Variable
variables_held bytes numbers = map (variable_of bytes) (records_of numbers)

-- a place with its length does not run past a buffer
unfoldable pub fits : List ℕ → (at n : ℕ) → Bool
fits bytes at n = leb (at + n) (length bytes)

-- an undefined record has no value bytes (27, change request No. 3)
abbrev pub empty_if_undefined : VariableRecord → Bool
empty_if_undefined r = eqb r.mark DEFINED || eqb r.value_length 0

-- a record is a VAR or a USERVAR, its name and value are in the buffer, and where it is undefined its value is empty
abbrev pub is_placed : List ℕ → VariableRecord → Bool
is_placed bytes r =
    is_kind r.kind
    && (fits bytes r.name_at r.name_length && (fits bytes r.value_at r.value_length && empty_if_undefined r))

-- every record is placed
unfoldable pub all_placed : List ℕ → List VariableRecord → Bool
all_placed bytes [] = true
all_placed bytes (r ∷ rs) = is_placed bytes r && all_placed bytes rs

-- and so of the records that numbers hold
unfoldable pub placed : (bytes numbers : List ℕ) → Bool
placed bytes numbers = all_placed bytes (records_of numbers)
