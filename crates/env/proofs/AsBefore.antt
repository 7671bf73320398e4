-- The reading is the one before change request No. 3, but for the mark: the theorem `Theorems.ReadsAsBefore`. Assumes
-- nothing.
use mathlib.Core.Path.{◌≡◌, refl, ap}
use mathlib.Core.Bool.{◌||◌}
use mathlib.Core.List.{List, [], ◌∷◌, map}
use Prim.Native.Nat.{ℕ, suc}
use lib.Dec.{ltb}
use lib.ListN.{length}
use Rattle.octets.proofs.Choice.{choice₂}
use Rattle.refusal.specs.declared.Refusal.{Refusal}
use Rattle.refusal.specs.declared.Refusal.TheVariants.{NoVariable, ValueInValue}
use Rattle.telnet.specs.Event.{payload_limit}
use Rattle.env.specs.Variable.{undefined, defined, Variable, variable, variable_limit, is_first, is, among, repeated}
use Rattle.env.specs.Fields.{Text, text, broken, Field, name_field, value_field, row_of}
use Rattle.env.specs.Numbers.{bytes_of}
use Rattle.env.specs.Read.{Found, variables, fault, add_variable, limited, whole, named, names, expect_no_text, variables_of}
use Rattle.env.specs.Read.{Reading, distinct, begun, reading_of}
use Rattle.env.specs.Before.{names_before, begun_before, reading_before, filled, without_mark}
use Rattle.env.specs.Theorems.{ReadsAsBefore}

-- what is found, with an empty value for each that is undefined
abbrev filled_in : Found → Found
filled_in (variables vs) = variables (map filled vs)
filled_in (fault n) = fault n

-- two findings, the second as the first was before
abbrev Before : Found → Found → Type 0
Before f g = filled_in f ≡ g

adds : (v w : Variable) (f g : Found) → filled v ≡ w → Before f g → Before (add_variable v f) (add_variable w g)
unfolding add_variable
adds v w (variables vs) g e h = rw (← h, e)
adds v w (fault n) g e h = rw (← h)

in-limited : (k : ℕ) (f g : Found) → Before f g → Before (limited k f) (limited k g)
unfolding limited
in-limited k f g h = choice₂ Before (ltb k variable_limit) (λ _. h) (λ _. refl)

names-before : (wrong : Refusal) (k : ℕ) (fs : List Field) → Before (names wrong k fs) (names_before wrong k fs)
unfolding names names_before whole named add_variable bytes_of
names-before wrong k [] = refl
names-before wrong k (value_field t ∷ fs) = refl
names-before wrong k (name_field kind broken ∷ value_field u ∷ fs) = in-limited k _ _ refl
names-before wrong k (name_field kind (text []) ∷ value_field u ∷ fs) = in-limited k _ _ refl
names-before wrong k (name_field kind (text (b ∷ bs)) ∷ value_field broken ∷ fs) = in-limited k _ _ refl
names-before wrong k (name_field kind (text (b ∷ bs)) ∷ value_field (text v) ∷ fs) =
    in-limited k _ _
    (adds (variable kind (b ∷ bs) (defined v)) (variable kind (b ∷ bs) (defined v)) (names ValueInValue (suc k) fs) _ refl (names-before _ (suc k) fs))
names-before wrong k (name_field kind broken ∷ []) = in-limited k _ _ refl
names-before wrong k (name_field kind (text []) ∷ []) = in-limited k _ _ refl
names-before wrong k (name_field kind (text (b ∷ bs)) ∷ []) = in-limited k _ _ refl
names-before wrong k (name_field kind broken ∷ name_field kind₂ u ∷ fs) = in-limited k _ _ refl
names-before wrong k (name_field kind (text []) ∷ name_field kind₂ u ∷ fs) = in-limited k _ _ refl
names-before wrong k (name_field kind (text (b ∷ bs)) ∷ name_field kind₂ u ∷ fs) =
    in-limited k _ _
    (adds (variable kind (b ∷ bs) undefined) (variable kind (b ∷ bs) (defined [])) (names NoVariable (suc k) (name_field kind₂ u ∷ fs)) _ refl
    (names-before _ (suc k) (name_field kind₂ u ∷ fs)))

unled : (t : Text) (f g : Found) → Before f g → Before (expect_no_text t f) (expect_no_text t g)
unfolding expect_no_text
unled broken f g h = refl
unled (text []) f g h = h
unled (text (b ∷ bs)) f g h = refl

-- the test for 25 does not look at the mark
among-filled : (kind : ℕ) (name : List ℕ) (vs : List Variable) → among kind name vs ≡ among kind name (map filled vs)
unfolding among is
among-filled kind name [] = refl
among-filled kind name (v ∷ vs) = ap (λ t. is kind name v || t) (among-filled kind name vs)

repeated-filled : (vs : List Variable) → repeated vs ≡ repeated (map filled vs)
unfolding repeated
repeated-filled [] = refl
repeated-filled (v ∷ vs) = rw (among-filled v.kind v.name vs, repeated-filled vs)

-- two readings, the second as the first was before
abbrev ReadBefore : Reading → Reading → Type 0
ReadBefore r s = without_mark r ≡ s

distinct-before : (first : ℕ) (f g : Found) → Before f g → ReadBefore (distinct first f) (distinct first g)
unfolding distinct without_mark
distinct-before first (variables vs) g h =
    rw (← h, ← repeated-filled vs) (choice₂ ReadBefore (repeated vs) (λ _. refl) (λ _. refl))
distinct-before first (fault n) g h = rw (← h)

begun-before : (p : List ℕ) → ReadBefore (begun p) (begun_before p)
unfolding begun begun_before variables_of without_mark
begun-before [] = refl
begun-before (b ∷ bs) =
    let r = row_of bs in
    choice₂ ReadBefore (is_first b) (λ _. distinct-before b _ _ (unled r.front _ _ (names-before _ 0 r.fields))) (λ _. refl)

pub reads-as-before : ReadsAsBefore
unfolding reading_of reading_before without_mark
reads-as-before p = choice₂ ReadBefore (ltb payload_limit (length p)) (λ _. refl) (λ _. begun-before p)
