-- What a look-up finds is the value of the first variable of that kind and name that is defined, and it finds nothing
-- exactly where there is none. Assumes nothing.
use Rattle.std.specs.Prelude.{if◌then◌else◌, Option, None, Some}
use mathlib.Core.Path.{◌≡◌, refl, sym, ap, ◌∙◌}
use mathlib.Core.Bool.{Bool, true, false, ◌||◌, ◌&&◌}
use mathlib.Core.List.{List, [], ◌∷◌, map}
use Prim.Native.Nat.{ℕ}
use lib.Dec.{eqb}
use Rattle.env_search.specs.declared.ValuePlace.{ValuePlace}
use Rattle.env_search.specs.Places.{is_defined_of, value_place, place_in, place_of}
use Rattle.env_search.specs.Theorems.{value_at, FindsTheValue, AbsentWhereNone}
use Rattle.env.specs.Variable.{undefined, defined, Variable, is_defined, defined_ones, is, among, Lookup, or_further, lookup, value_or}
use Rattle.env.specs.declared.VariableRecord.{VariableRecord}
use Rattle.env.specs.Numbers.{records_of, DEFINED, value_by, variable_of, variables_held}
use Rattle.octets.specs.Part.{part}

-- what a record gives a look-up: its value where it is defined, of that kind and name; else what is found further on
value_of : (bytes : List ℕ) (a n : ℕ) (marked test : Bool) (after : Option ValuePlace) (rest : Lookup) → value_at bytes after ≡ rest
    → value_at bytes (if marked && test then Some (value_place a n) else after)
    ≡ (if test then or_further (if marked then defined (part bytes a n) else undefined) rest else rest)
unfolding value_at or_further
value_of bytes a n true true after rest e = refl
value_of bytes a n true false after rest e = e
value_of bytes a n false true after rest e = e
value_of bytes a n false false after rest e = e

finds-in : (kind : ℕ) (name bytes : List ℕ) (rs : List VariableRecord)
    → value_at bytes (place_in kind name bytes rs) ≡ lookup kind name (map (variable_of bytes) rs)
unfolding value_at is_defined_of place_in lookup value_by
finds-in kind name bytes [] = refl
finds-in kind name bytes (r ∷ rs) =
    value_of bytes r.value_at r.value_length (eqb r.mark DEFINED) (is kind name (variable_of bytes r)) (place_in kind name bytes rs)
    (lookup kind name (map (variable_of bytes) rs)) (finds-in kind name bytes rs)

pub finds-the-value : FindsTheValue
unfolding place_of variables_held
finds-the-value kind name bytes numbers = finds-in kind name bytes (records_of numbers)

-- whether a value has a place
unfoldable there : Option ValuePlace → Bool
there None = false
there (Some p) = true

there-or : (a n : ℕ) (test : Bool) (after : Option ValuePlace) (rest : Bool) → there after ≡ rest → there (if test then Some (value_place a n) else after) ≡ (test || rest)
unfolding there
there-or a n true after rest e = refl
there-or a n false after rest e = e

there-of : (kind : ℕ) (name : List ℕ) (a n : ℕ) (marked : Bool) (v : Variable) (value : List ℕ) (vs : List Variable) (after : Option ValuePlace)
    → there after ≡ among kind name vs
    → there (if marked && is kind name v then Some (value_place a n) else after)
    ≡ among kind name (if is_defined (if marked then defined value else undefined) then v ∷ vs else vs)
unfolding among is_defined
there-of kind name a n true v value vs after e = there-or a n (is kind name v) after (among kind name vs) e
there-of kind name a n false v value vs after e = e

there-in : (kind : ℕ) (name bytes : List ℕ) (rs : List VariableRecord)
    → there (place_in kind name bytes rs) ≡ among kind name (defined_ones (map (variable_of bytes) rs))
unfolding there is_defined_of place_in among defined_ones value_by
there-in kind name bytes [] = refl
there-in kind name bytes (r ∷ rs) =
    there-of kind name r.value_at r.value_length (eqb r.mark DEFINED) (variable_of bytes r) _ (defined_ones (map (variable_of bytes) rs))
    (place_in kind name bytes rs) (there-in kind name bytes rs)

there-among : (kind : ℕ) (name bytes numbers : List ℕ)
    → there (place_of kind name bytes numbers) ≡ among kind name (defined_ones (variables_held bytes numbers))
unfolding place_of variables_held
there-among kind name bytes numbers = there-in kind name bytes (records_of numbers)

nowhere : (p : Option ValuePlace) → there p ≡ false → p ≡ None
unfolding there
nowhere None h = refl
nowhere (Some p) h = cc

pub absent-where-none : AbsentWhereNone
unfolding there
absent-where-none kind name bytes numbers =
    let e = there-among kind name bytes numbers in
    ((λ h. sym e ∙ ap there h), (λ h. nowhere (place_of kind name bytes numbers) (e ∙ h)))

-- the value at the place that a look-up finds, empty where it finds none
pub value_found : (kind : ℕ) (name bytes numbers : List ℕ) (p q : Option ValuePlace) → p ≡ place_of kind name bytes numbers → p ≡ q
    → value_or [] (value_at bytes q) ≡ value_or [] (lookup kind name (variables_held bytes numbers))
value_found kind name bytes numbers p q e told =
    ap (value_or []) (ap (value_at bytes) (sym told ∙ e) ∙ finds-the-value kind name bytes numbers)
