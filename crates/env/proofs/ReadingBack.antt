-- Reading undoes writing: the theorem `Theorems.ReadsBack`. What is written is a row of names, each with its value
-- where it is defined, in which those variables are found; and what is read without refusal is such as the writer
-- accepts. Assumes nothing.
use mathlib.Core.Path.{◌≡◌, refl, ap, ◌∙◌}
use mathlib.Core.Bool.{false}
use mathlib.Core.List.{List, [], ◌∷◌, ◌++◌, append_assoc, append-nil}
use Prim.Native.Nat.{ℕ, suc, ◌≤◌, ◌<◌}
use native.Mathlib.Omega.{arith}
use lib.Dec.{ltb}
use lib.ListN.{length}
use denote.Floats.{is_true}
use borrow.Author.Tests.{le-ltb, ltb-false}
use Rattle.octets.proofs.Choice.{choice}
use Rattle.telnet.specs.Event.{payload_limit}
use Rattle.refusal.specs.declared.Refusal.{Refusal}
use Rattle.refusal.specs.declared.Refusal.TheVariants.{NoVariable, ValueInValue}
use Rattle.env.specs.Variable.{Value, undefined, defined, Variable, variable, variable_limit, is_first, repeated}
use Rattle.env.specs.Fields.{text, Field, name_field, value_field, row, starts_name, starts_value, row_of}
use Rattle.env.specs.Read.{Found, variables, add_variable, whole, named, names, expect_no_text, variables_of, distinct, begun}
use Rattle.env.specs.Write.{escaped, written_value, written_variable, written_variables, payload_of, is_empty, nameless, Objection, none, against, objection, Accepted}
use Rattle.env.specs.Theorems.{ReadsBack}
use Rattle.env.proofs.Rows.{row-nil, row-kind, row-value, row-escaped, prefixed-text}
use Rattle.env.proofs.Limits.{reading-short, limited-room}
use Rattle.env.proofs.Sound.{Sound, first-sound, Says}

-- the fields of a value that is written, before others, and of variables
with_value : Value → List Field → List Field
with_value undefined fs = fs
with_value (defined value) fs = value_field (text value) ∷ fs

fields_of : List Variable → List Field
fields_of [] = []
fields_of (v ∷ vs) = name_field v.kind (text v.name) ∷ with_value v.value (fields_of vs)

-- a text with its ESCs, with nothing plain after it
row-text : (bs rest : List ℕ) (fs : List Field) → row_of rest ≡ row (text []) fs → row_of (escaped bs ++ rest) ≡ row (text bs) fs
row-text bs rest fs e = rw (row-escaped bs rest, e, prefixed-text bs [] fs, append-nil)

row-value-written : (v : Value) (rest : List ℕ) (fs : List Field) → row_of rest ≡ row (text []) fs
    → row_of (written_value v ++ rest) ≡ row (text []) (with_value v fs)
unfolding written_value starts_value with_value
row-value-written undefined rest fs e = e
row-value-written (defined value) rest fs e =
    row-value (escaped value ++ rest) ∙ ap starts_value (row-text value rest fs e)

row_written : (k : ℕ) (vs : List Variable) → Sound k vs → row_of (written_variables vs) ≡ row (text []) (fields_of vs)
unfolding written_variables written_variable starts_name fields_of
row_written k [] s = row-nil
row_written k (v ∷ vs) s =
    let f = first-sound k v vs s in
    let rest = written_value v.value ++ written_variables vs in
    let value = row-value-written v.value (written_variables vs) (fields_of vs) (row_written (suc k) vs f.after) in
    let name = row-text v.name rest (with_value v.value (fields_of vs)) value in
    rw append_assoc (row-kind v.kind (escaped v.name ++ rest) f.kind ∙ ap (starts_name v.kind) name)

named-full : (found : List ℕ → Found) (name : List ℕ) → is_empty name ≡ false → named found name ≡ found name
unfolding named is_empty
named-full found [] e = cc
named-full found (b ∷ bs) e = refl

-- a variable that is written, before fields in which others are found whatever a VALUE in front would be refused by
name-written : (wrong : Refusal) (k kind : ℕ) (name : List ℕ) (u : Value) (fs : List Field) (vs : List Variable) → k < variable_limit
    → is_empty name ≡ false → ((n : Refusal) → names n (suc k) fs ≡ variables vs)
    → names wrong k (name_field kind (text name) ∷ with_value u fs) ≡ variables (variable kind name u ∷ vs)
unfolding names whole add_variable with_value
name-written wrong k kind name undefined [] vs room full h =
    rw (limited-room k _ room, named-full _ name full) (ap (add_variable (variable kind name undefined)) (h NoVariable))
name-written wrong k kind name undefined (name_field kind₂ t ∷ fs) vs room full h =
    rw (limited-room k _ room, named-full _ name full) (ap (add_variable (variable kind name undefined)) (h NoVariable))
name-written wrong k kind name undefined (value_field t ∷ fs) vs room full h =
    let e = h NoVariable in
    let z : ◌≡◌ {A = ℕ} 0 1 = cc in
    absurd (omega arith)
name-written wrong k kind name (defined value) fs vs room full h =
    rw (limited-room k _ room, named-full _ name full) (ap (add_variable (variable kind name (defined value))) (h ValueInValue))

names-written : (wrong : Refusal) (k : ℕ) (vs : List Variable) → Sound k vs → names wrong k (fields_of vs) ≡ variables vs
unfolding names fields_of
names-written wrong k [] s = refl
names-written wrong k (v ∷ vs) s =
    let f = first-sound k v vs s in
    let fits = s.few in
    name-written wrong k v.kind v.name v.value (fields_of vs) vs (omega arith) f.full (λ n. names-written n (suc k) vs f.after)

-- what is read without refusal, and a length within the limit, is what the writer accepts
pub accepted : (first : ℕ) (vs : List Variable) → Says first vs → length (payload_of first vs) ≤ payload_limit → Accepted first vs
unfolding objection
accepted first vs s short =
    let sound = s.sound in
    let few : length vs ≤ variable_limit = omega (arith, sound.few) in
    record {
      begins = s.begins;
      kinds = sound.kinds;
      unobjected = rw (sound.full, s.once) (simp le-ltb);
    }

pub accepted-only : (first : ℕ) (vs : List Variable) → Accepted first vs → Says first vs × (length (payload_of first vs) ≤ payload_limit)
unfolding objection
accepted-only first vs a =
    choice Only (nameless vs) (λ _ e. never e) (λ full.
    choice Only (ltb variable_limit (length vs)) (λ _ e. never e) (λ few.
    choice Only (repeated vs) (λ _ e. never e) (λ once.
    choice Only (ltb payload_limit (length (payload_of first vs))) (λ _ e. never e) (λ short e. (
      record {
        begins = a.begins;
        sound = record { kinds = a.kinds; full = full; few = omega (arith, ltb-false variable_limit (length vs) few) };
        once = once;
      },
      ltb-false payload_limit (length (payload_of first vs)) short,
    ))))) a.unobjected
  where
    Only : Objection → Type 0
    Only o = o ≡ none → Says first vs × (length (payload_of first vs) ≤ payload_limit)

    never : {A : Type 0} {e : Refusal} → against e ≡ none → A
    never e = let z : ◌≡◌ {A = ℕ} 0 1 = cc in absurd (omega arith)

pub reads-back : ReadsBack
unfolding begun variables_of expect_no_text distinct
reads-back first vs a =
    let s = accepted-only first vs a in
    let sound = s.0.sound in
    let first-is = is_true (is_first first) a.begins in
    rw (reading-short (payload_of first vs) s.1, first-is, row_written 0 vs sound, names-written _ 0 vs sound, s.0.once)
