-- Environment variables and the codes of RFC 1572, section 2, as the specification reads them ("Environment strings").
use Rattle.std.specs.Prelude.{ℕ, Bool, true, false, ◌||◌, ◌&&◌, List, [], ◌∷◌, eqb, if◌then◌else◌}
use Rattle.octets.specs.Same.{same}

-- the first byte of a payload: IS answers a SEND, INFO tells of a change
abbrev pub IS : ℕ
IS = 0

abbrev pub INFO : ℕ
INFO = 2

unfoldable pub is_first : ℕ → Bool
is_first b = eqb b IS || eqb b INFO

-- what bytes after it stand for
abbrev pub VAR : ℕ
VAR = 0

abbrev pub VALUE : ℕ
VALUE = 1

abbrev pub ESC : ℕ
ESC = 2

abbrev pub USERVAR : ℕ
USERVAR = 3

-- A variable without VALUE is "undefined, while VALUE with nothing after it is defined and empty" (change request No. 3
-- on RFC 1572, section 2).
pub data Value : Type 0 where
  undefined : Value
  defined : List ℕ → Value

-- a variable: its kind, VAR or USERVAR, its name, and its value
pub record Variable : Type 0 where
  pub kind : ℕ
  pub name : List ℕ
  pub value : Value

abbrev pub variable : ℕ → (name : List ℕ) → Value → Variable
variable k n v = record { kind = k; name = n; value = v }

unfoldable pub is_defined : Value → Bool
is_defined undefined = false
is_defined (defined value) = true

-- those of some variables that are defined
unfoldable pub defined_ones : List Variable → List Variable
defined_ones [] = []
defined_ones (v ∷ vs) = if is_defined v.value then v ∷ defined_ones vs else defined_ones vs

unfoldable pub is_kind : ℕ → Bool
is_kind k = eqb k VAR || eqb k USERVAR

-- how many a payload has at most
abbrev pub variable_limit : ℕ
variable_limit = 64

-- a variable is of a kind and has a name
unfoldable pub is : ℕ → List ℕ → Variable → Bool
is kind name v = eqb kind v.kind && same name v.name

-- a variable of that kind and name is among some
unfoldable pub among : ℕ → List ℕ → List Variable → Bool
among kind name [] = false
among kind name (v ∷ vs) = is kind name v || among kind name vs

-- the same kind and name twice
unfoldable pub repeated : List Variable → Bool
repeated [] = false
repeated (v ∷ vs) = among v.kind v.name vs || repeated vs

-- a look-up by kind and name: the value of the first such variable that is defined
pub data Lookup : Type 0 where
  absent : Lookup
  present : List ℕ → Lookup

-- a value, or where it is undefined what is found further on
unfoldable pub or_further : Value → Lookup → Lookup
or_further undefined further = further
or_further (defined value) further = present value

unfoldable pub lookup : ℕ → List ℕ → List Variable → Lookup
lookup kind name [] = absent
lookup kind name (v ∷ vs) = if is kind name v then or_further v.value (lookup kind name vs) else lookup kind name vs

-- what was looked up, or something else where it is absent
unfoldable pub value_or : List ℕ → Lookup → List ℕ
value_or other absent = other
value_or other (present value) = value
