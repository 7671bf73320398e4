-- What is proved of a look-up. The proofs are in `proofs/Found.antt`.
use Rattle.std.specs.Prelude.{◌≡◌, false, List, ◌↔◌, ℕ, Option, None, Some}
use Rattle.env_search.specs.declared.ValuePlace.{ValuePlace}
use Rattle.env_search.specs.Places.{place_of}
use Rattle.env.specs.Variable.{defined_ones, Lookup, absent, present, among, lookup}
use Rattle.env.specs.Numbers.{variables_held}
use Rattle.octets.specs.Part.{part}

-- the value at a place of a buffer
unfoldable pub value_at : List ℕ → Option ValuePlace → Lookup
value_at bytes None = absent
value_at bytes (Some p) = present (part bytes p.at p.length)

-- What a look-up finds is the value of the first variable of that kind and name that is defined.
abbrev pub FindsTheValue : Type 0
FindsTheValue =
    (kind : ℕ) (name bytes numbers : List ℕ) → value_at bytes (place_of kind name bytes numbers) ≡ lookup kind name (variables_held bytes numbers)

-- It finds nothing exactly where no variable of that kind and name is among the defined ones.
abbrev pub AbsentWhereNone : Type 0
AbsentWhereNone =
    (kind : ℕ) (name bytes numbers : List ℕ)
    → (place_of kind name bytes numbers ≡ None) ↔ (among kind name (defined_ones (variables_held bytes numbers)) ≡ false)
