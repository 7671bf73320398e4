-- Writing a payload (specification, "Environment strings": the writer escapes 0 to 3, and the order of its refusals; it
-- "always writes VALUE" but for change request No. 3: "the writer leaves VALUE out for" an undefined variable).
use Rattle.std.specs.Prelude.{◌≡◌, Bool, true, false, ◌||◌, ◌&&◌, List, [], ◌∷◌, ◌++◌, ℕ, T, leb, ltb, length, if◌then◌else◌}
use Rattle.env.specs.Variable.{Value, undefined, defined, Variable, VALUE, ESC, is_first, is_kind, variable_limit, repeated}
use Rattle.telnet.specs.Event.{payload_limit}
use Rattle.refusal.specs.declared.Refusal.{Refusal}
use Rattle.refusal.specs.declared.Refusal.TheVariants.{PayloadTooLong, NoVariable, TooManyVariables, RepeatedVariable}

-- a name or a value with its ESCs
unfoldable pub escaped : List ℕ → List ℕ
escaped [] = []
escaped (b ∷ bs) = if leb b 3 then ESC ∷ b ∷ escaped bs else b ∷ escaped bs

-- VALUE and a value with its ESCs; nothing where it is undefined
unfoldable pub written_value : Value → List ℕ
written_value undefined = []
written_value (defined value) = VALUE ∷ escaped value

-- a variable
unfoldable pub written_variable : Variable → List ℕ
written_variable v = v.kind ∷ (escaped v.name ++ written_value v.value)

-- variables in their order
unfoldable pub written_variables : List Variable → List ℕ
written_variables [] = []
written_variables (v ∷ vs) = written_variable v ++ written_variables vs

-- the payload of a first byte and variables
abbrev pub payload_of : ℕ → List Variable → List ℕ
payload_of first vs = first ∷ written_variables vs

-- each is a VAR or a USERVAR
unfoldable pub kinds_good : List Variable → Bool
kinds_good [] = true
kinds_good (v ∷ vs) = is_kind v.kind && kinds_good vs

unfoldable pub is_empty : List ℕ → Bool
is_empty [] = true
is_empty (b ∷ bs) = false

-- one has no name
unfoldable pub nameless : List Variable → Bool
nameless [] = false
nameless (v ∷ vs) = is_empty v.name || nameless vs

-- why the writer refuses variables, each refusal over the whole list before the next: 21, 24, 25, 3; or that it does not
pub data Objection : Type 0 where
  none : Objection
  against : Refusal → Objection

unfoldable pub objection : ℕ → List Variable → Objection
objection first vs =
    if nameless vs then against NoVariable else
    if ltb variable_limit (length vs) then against TooManyVariables else
    if repeated vs then against RepeatedVariable else
    if ltb payload_limit (length (payload_of first vs)) then against PayloadTooLong else
    none

-- what the writer accepts
pub record Accepted (first : ℕ) (vs : List Variable) : Type 0 where
  pub begins : T (is_first first)
  pub kinds : T (kinds_good vs)
  pub unobjected : objection first vs ≡ none
