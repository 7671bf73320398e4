-- What a search tells of a variable, and what the variables say of the panel.
use Rattle.std.specs.Prelude.{ℕ, Bool, not, ◌&&◌, List, Option, None, Some}
use Rattle.env.specs.Variable.{Variable, USERVAR, Lookup, absent, present, lookup}
use Rattle.signon.specs.Attempt.{IBMRSEED, IBMSUBSPW, is_present}

-- a value, or none, as a look-up has it
abbrev pub found : Option (List ℕ) → Lookup
found None = absent
found (Some value) = present value

abbrev pub is_panel : List Variable → Bool
is_panel vs = not (is_present (lookup USERVAR IBMRSEED vs)) && not (is_present (lookup USERVAR IBMSUBSPW vs))
