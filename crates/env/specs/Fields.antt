-- The part of a payload after its first byte is a row of fields: a VAR, VALUE or USERVAR that no ESC comes before, and
-- the text after it, a name or a value without its ESCs.
use Rattle.std.specs.Prelude.{ℕ, zero, suc, List, [], ◌∷◌, leb, if◌then◌else◌}
use Rattle.env.specs.Variable.{VAR, USERVAR}

-- a name or a value; broken, where it has an ESC at the end of the payload or before a byte above 3
pub data Text : Type 0 where
  text : List ℕ → Text
  broken : Text

-- a VAR or USERVAR with a name, or VALUE with a value
pub data Field : Type 0 where
  name_field : ℕ → Text → Field
  value_field : Text → Field

-- the text at the front, and the fields after it
pub record Row : Type 0 where
  pub front : Text
  pub fields : List Field

abbrev pub row : Text → List Field → Row
row t fs = record { front = t; fields = fs }

-- a text with a byte before it
unfoldable pub joins : ℕ → Text → Text
joins b (text bs) = text (b ∷ bs)
joins b broken = broken

-- a byte of the text at the front
unfoldable pub stands : ℕ → Row → Row
stands b r = row (joins b r.front) r.fields

-- ESC before 0, 1, 2 or 3 gives that byte
unfoldable pub escapes : ℕ → Row → Row
escapes b r = if leb b 3 then stands b r else row broken []

-- a VAR or USERVAR before a row: what was its front is a name
unfoldable pub starts_name : ℕ → Row → Row
starts_name b r = row (text []) (name_field b r.front ∷ r.fields)

-- a VALUE before a row: what was its front is a value
unfoldable pub starts_value : Row → Row
starts_value r = row (text []) (value_field r.front ∷ r.fields)

-- bytes as a row: VAR, VALUE, ESC, USERVAR, and bytes above 3, which are plain
unfoldable pub row_of : List ℕ → Row
row_of [] = row (text []) []
row_of (zero ∷ bs) = starts_name VAR (row_of bs)
row_of (suc zero ∷ bs) = starts_value (row_of bs)
row_of (suc (suc zero) ∷ []) = row broken []
row_of (suc (suc zero) ∷ b ∷ bs) = escapes b (row_of bs)
row_of (suc (suc (suc zero)) ∷ bs) = starts_name USERVAR (row_of bs)
row_of (suc (suc (suc (suc b))) ∷ bs) = stands (suc (suc (suc (suc b)))) (row_of bs)
