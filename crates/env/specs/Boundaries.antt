-- Inputs at the boundaries between refusals, each with its reading: where two faults are in one payload, where a name
-- ends at once, and at the 64th and 65th variable. `proofs/Boundary.antt` proves them, as one theorem over the list.
use Rattle.std.specs.Prelude.{◌≡◌, List, [], ◌∷◌, ◌++◌, ℕ, zero, suc, ◌+◌}
use Rattle.env.specs.Variable.{undefined, defined, Variable, variable, IS, INFO, VAR, USERVAR}
use Rattle.env.specs.Read.{Reading, says, not_read, reading_of}
use Rattle.refusal.specs.declared.Refusal.TheVariants.{NotIsOrInfo, NoVariable, BadEscape, ValueInValue, TooManyVariables, RepeatedVariable}

pub record Case : Type 0 where
  pub payload : List ℕ
  pub reading : Reading

abbrev pub case : List ℕ → Reading → Case
case p r = record { payload = p; reading = r }

-- every case of a list is read as it says
abbrev pub AllRead : List Case → Type 0
AllRead [] = Unit {0}
AllRead (c ∷ cs) = (reading_of c.payload ≡ c.reading) × AllRead cs

-- n variables without values, and their names: the bytes 20X, 21X and so on
unfoldable pub several : ℕ → List Variable
several zero = []
several (suc n) = several n ++ variable VAR ((0x20 + n) ∷ []) undefined ∷ []

-- a payload of them, as short as can be, and something after it
unfoldable pub several_then : ℕ → List ℕ → List ℕ
several_then zero rest = rest
several_then (suc n) rest = several_then n (VAR ∷ (0x20 + n) ∷ rest)

abbrev pub after_several : ℕ → List ℕ → List ℕ
after_several n rest = IS ∷ several_then n rest

abbrev A : List ℕ
A = 0x41 ∷ []

abbrev pub boundaries : List Case
boundaries =
    -- SEND is no first byte, INFO is one
    case (1 ∷ 0 ∷ 0x41 ∷ []) (not_read NotIsOrInfo)
    ∷ case (2 ∷ 0 ∷ 0x41 ∷ []) (says INFO (variable VAR A undefined ∷ []))
    -- an ESC, a VALUE or a letter where a variable is expected
    ∷ case (0 ∷ 2 ∷ []) (not_read NoVariable)
    ∷ case (0 ∷ 2 ∷ 5 ∷ []) (not_read NoVariable)
    ∷ case (0 ∷ 2 ∷ 0 ∷ []) (not_read NoVariable)
    ∷ case (0 ∷ 1 ∷ []) (not_read NoVariable)
    ∷ case (0 ∷ 0x41 ∷ []) (not_read NoVariable)
    -- a name that ends at once, and one that is only a bad ESC
    ∷ case (0 ∷ 0 ∷ []) (not_read NoVariable)
    ∷ case (0 ∷ 0 ∷ 1 ∷ 0x41 ∷ []) (not_read NoVariable)
    ∷ case (0 ∷ 0 ∷ 2 ∷ []) (not_read BadEscape)
    ∷ case (0 ∷ 0 ∷ 2 ∷ 5 ∷ []) (not_read BadEscape)
    -- a name without VALUE, and with an empty one
    ∷ case (0 ∷ 0 ∷ 0x41 ∷ []) (says IS (variable VAR A undefined ∷ []))
    ∷ case (0 ∷ 0 ∷ 0x41 ∷ 1 ∷ []) (says IS (variable VAR A (defined []) ∷ []))
    -- VALUE inside a value, before and after a bad ESC
    ∷ case (0 ∷ 0 ∷ 0x41 ∷ 1 ∷ 1 ∷ []) (not_read ValueInValue)
    ∷ case (0 ∷ 0 ∷ 0x41 ∷ 1 ∷ 1 ∷ 2 ∷ 5 ∷ []) (not_read ValueInValue)
    ∷ case (0 ∷ 0 ∷ 0x41 ∷ 1 ∷ 2 ∷ 5 ∷ 1 ∷ []) (not_read BadEscape)
    -- the same name: of another kind, in another case, escaped, and before a fault further right
    ∷ case (0 ∷ 0 ∷ 0x41 ∷ 3 ∷ 0x41 ∷ []) (says IS (variable VAR A undefined ∷ variable USERVAR A undefined ∷ []))
    ∷ case (0 ∷ 0 ∷ 0x41 ∷ 0 ∷ 0x61 ∷ []) (says IS (variable VAR A undefined ∷ variable VAR (0x61 ∷ []) undefined ∷ []))
    ∷ case (0 ∷ 0 ∷ 2 ∷ 1 ∷ 0 ∷ 2 ∷ 1 ∷ []) (not_read RepeatedVariable)
    ∷ case (0 ∷ 0 ∷ 0x41 ∷ 0 ∷ 0x41 ∷ 1 ∷ 2 ∷ []) (not_read BadEscape)
    -- the same name without VALUE and with one, either first
    ∷ case (0 ∷ 0 ∷ 0x41 ∷ 0 ∷ 0x41 ∷ 1 ∷ 0x42 ∷ []) (not_read RepeatedVariable)
    ∷ case (0 ∷ 0 ∷ 0x41 ∷ 1 ∷ 0x42 ∷ 0 ∷ 0x41 ∷ []) (not_read RepeatedVariable)
    -- "64 variables are read; a 65th gives 24", at its first byte
    ∷ case (after_several 64 []) (says IS (several 64))
    ∷ case (after_several 64 (0 ∷ [])) (not_read TooManyVariables)
    ∷ case (after_several 64 (0 ∷ 2 ∷ 5 ∷ [])) (not_read TooManyVariables)
    -- a fault of the 64th comes before the 65th
    ∷ case (after_several 64 (1 ∷ 0x41 ∷ 1 ∷ [])) (not_read ValueInValue)
    ∷ case (after_several 64 (2 ∷ [])) (not_read BadEscape)
    ∷ case (after_several 63 (0 ∷ 0 ∷ 0x7A ∷ [])) (not_read NoVariable)
    ∷ []
