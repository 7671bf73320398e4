-- What is proved of the format: reading undoes writing and writing reading, records hold what was recorded, the tests
-- of kinds and names say what is meant by them, a look-up passes over undefined variables and the test for 25 does not,
-- and the first fault decides. The proofs are in `proofs/ReadingBack.antt`, `proofs/WritingBack.antt`,
-- `proofs/Holding.antt`, `proofs/Repeats.antt`, `proofs/Undefined.antt`, `proofs/AsBefore.antt` and
-- `proofs/Faults.antt`.
use Rattle.std.specs.Prelude.{◌≡◌, List, [], ◌∷◌, ◌++◌, ◌↔◌, ◌⊎◌, ℕ, ◌+◌, ◌≤◌, ◌<◌, T, length}
use Rattle.env.specs.Variable.{Variable, VAR, VALUE, ESC, USERVAR, is, among, repeated, defined_ones, lookup}
use Rattle.env.specs.Read.{reading_of, says, not_read}
use Rattle.env.specs.Write.{payload_of, kinds_good, Accepted}
use Rattle.env.specs.Numbers.{packed, recorded, variables_held, placed}
use Rattle.env.specs.Before.{without_mark, reading_before}
use Rattle.octets.specs.Lent.{overwrite}
use Rattle.refusal.specs.declared.Refusal.{Refusal}
use Rattle.refusal.specs.declared.Refusal.TheVariants.{PayloadTooLong, NotIsOrInfo, NoVariable, BadEscape, ValueInValue, TooManyVariables, RepeatedVariable}

-- What the writer accepts and writes is read back: the same first byte and the same kinds, names and values in order,
-- undefined where they were undefined.
abbrev pub ReadsBack : Type 0
ReadsBack = (first : ℕ) (vs : List Variable) → Accepted first vs → reading_of (payload_of first vs) ≡ says first vs

-- What is read without refusal the writer accepts, and writing it gives the payload, byte for byte.
abbrev pub WritesBack : Type 0
WritesBack =
    (payload : List ℕ) (first : ℕ) (vs : List Variable) → reading_of payload ≡ says first vs
    → Accepted first vs × (payload_of first vs ≡ payload)

-- "A name without VALUE isn't there": a look-up finds what it finds among the defined variables alone.
abbrev pub LookupPassesOver : Type 0
LookupPassesOver = (kind : ℕ) (name : List ℕ) (vs : List Variable) → lookup kind name vs ≡ lookup kind name (defined_ones vs)

-- "Repeats still count it, so 25 is unchanged": for every payload the reading is the one before change request No. 3,
-- but that a variable without VALUE is undefined where it had an empty value. So 25 is given exactly where it was, and
-- each other number.
abbrev pub ReadsAsBefore : Type 0
ReadsAsBefore = (payload : List ℕ) → without_mark (reading_of payload) ≡ reading_before payload

-- Variables that are packed into a buffer, and recorded, are held again, the same and in order; and where they have
-- kinds, they are placed.
abbrev pub HoldsAgain : Type 0
HoldsAgain =
    (bytes : List ℕ) (at : ℕ) (vs : List Variable) → at + length (packed vs) ≤ length bytes
    → (variables_held (overwrite bytes at (packed vs)) (recorded at vs) ≡ vs)
    × (T (kinds_good vs) → T (placed (overwrite bytes at (packed vs)) (recorded at vs)))

-- A variable is of a kind and has a name where both are its own.
abbrev pub IsBoth : Type 0
IsBoth = (kind : ℕ) (name : List ℕ) (v : Variable) → T (is kind name v) ↔ ((kind ≡ v.kind) × (name ≡ v.name))

-- a variable of a kind and name, somewhere in a list
pub record Occurs (kind : ℕ) (name : List ℕ) (vs : List Variable) : Type 0 where
  pub before : List Variable
  pub it : Variable
  pub after : List Variable
  pub there : vs ≡ before ++ it ∷ after
  pub same_kind : kind ≡ it.kind
  pub same_name : name ≡ it.name

-- The test finds a variable of a kind and name among some exactly where one occurs in them.
abbrev pub AmongIsOccurs : Type 0
AmongIsOccurs = (kind : ℕ) (name : List ℕ) (vs : List Variable) → T (among kind name vs) ↔ Occurs kind name vs

-- a variable whose kind and name occur again after it
pub record Twice (vs : List Variable) : Type 0 where
  pub before : List Variable
  pub it : Variable
  pub after : List Variable
  pub there : vs ≡ before ++ it ∷ after
  pub again : Occurs it.kind it.name after

-- The test for 25 finds a kind and name that are there twice, and nothing else.
abbrev pub RepeatedIsTwice : Type 0
RepeatedIsTwice = (vs : List Variable) → T (repeated vs) ↔ Twice vs

-- a fault of some bytes is the fault of every payload that begins with them
abbrev pub Stays : (p : List ℕ) (e : Refusal) → Type 0
Stays p e = (more : List ℕ) → length (p ++ more) ≤ 1024 → reading_of (p ++ more) ≡ not_read e

-- "Framing and environment faults: the first met from left to right". Only the end of a payload can be told by 20, 21
-- and 22 as well: an empty one, a VAR or USERVAR with nothing after it, an ESC with nothing after it.
pub record FirstFaultDecides : Type 0 where
  pub not_is_or_info : (b : ℕ) (p : List ℕ) → reading_of (b ∷ p) ≡ not_read NotIsOrInfo → Stays (b ∷ p) NotIsOrInfo
  pub no_variable : (p : List ℕ) (b : ℕ) → (b ≡ VAR → ⊥) → (b ≡ USERVAR → ⊥) → reading_of (p ++ b ∷ []) ≡ not_read NoVariable → Stays (p ++ b ∷ []) NoVariable
  pub bad_escape : (p : List ℕ) (b : ℕ) → (b ≡ ESC → ⊥) → reading_of (p ++ b ∷ []) ≡ not_read BadEscape → Stays (p ++ b ∷ []) BadEscape
  pub value_in_value : (p : List ℕ) → reading_of p ≡ not_read ValueInValue → Stays p ValueInValue
  pub too_many : (p : List ℕ) → reading_of p ≡ not_read TooManyVariables → Stays p TooManyVariables

-- "25 after all those": whatever is repeated, a fault further right is told instead.
pub record GivesWay (p : List ℕ) : Type 0 where
  pub bad_escape : reading_of (p ++ ESC ∷ 5 ∷ []) ≡ not_read BadEscape
  pub value_in_value : reading_of (p ++ VALUE ∷ VALUE ∷ []) ≡ not_read ValueInValue
  -- a variable without a name, or the 65th
  pub no_variable : (reading_of (p ++ VAR ∷ VALUE ∷ []) ≡ not_read NoVariable) ⊎ (reading_of (p ++ VAR ∷ VALUE ∷ []) ≡ not_read TooManyVariables)

abbrev pub RepeatGivesWay : Type 0
RepeatGivesWay = (p : List ℕ) → length p ≤ 1022 → reading_of p ≡ not_read RepeatedVariable → GivesWay p

-- "An environment reader tests 3 before 20": 3 is told exactly where a payload has more than 1,024 bytes, whatever they
-- are.
abbrev pub TooLongFirst : Type 0
TooLongFirst = (p : List ℕ) → (reading_of p ≡ not_read PayloadTooLong) ↔ (1024 < length p)
