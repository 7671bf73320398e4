-- Writing undoes reading, byte for byte: the theorem `Theorems.WritesBack`. A row without a bad ESC, written with its
-- ESCs, is the bytes that it was read from; and its fields, written, are its variables, written. Assumes nothing.
use mathlib.Core.Path.{◌≡◌, refl, sym, ap, subst, ◌∙◌}
use mathlib.Core.List.{List, [], ◌∷◌, ◌++◌, append_assoc, append-nil}
use mathlib.Core.Logic.{⊎_elim}
use Prim.Native.Nat.{ℕ, zero, suc, ◌≤◌, ◌<◌}
use native.Mathlib.Omega.{arith}
use lib.Dec.{ltb}
use lib.ListN.{length}
use Rattle.octets.proofs.Choice.{choice}
use Rattle.octets.proofs.Order.{below-or-above}
use Rattle.telnet.specs.Event.{payload_limit}
use Rattle.env.specs.Variable.{undefined, defined, variable, VALUE, ESC, variable_limit, is_first, repeated}
use Rattle.env.specs.Fields.{Text, text, broken, Field, name_field, value_field, Row, joins, stands, starts_name, starts_value, row_of}
use Rattle.refusal.specs.declared.Refusal.{Refusal}
use Rattle.env.specs.Read.{Found, variables, fault, add_variable, limited, whole, named, names, expect_no_text, variables_of}
use Rattle.env.specs.Read.{Reading, says, not_read, distinct, begun}
use Rattle.env.specs.Write.{escaped, written_value, written_variable, written_variables, payload_of}
use Rattle.env.specs.Theorems.{WritesBack}
use Rattle.env.proofs.Rows.{row-escape, row-bad-escape, escaped-nil, escaped-code, escaped-plain}
use Rattle.env.proofs.Limits.{reading-short, reading-long}
use Rattle.env.proofs.Sound.{Reads, reads}
use Rattle.env.proofs.ReadingBack.{accepted}

-- texts without a bad ESC
abbrev Whole : Text → Type 0
Whole (text bs) = Unit {0}
Whole broken = ⊥

abbrev AllWhole : List Field → Type 0
AllWhole [] = Unit {0}
AllWhole (name_field kind t ∷ fs) = Whole t × AllWhole fs
AllWhole (value_field t ∷ fs) = Whole t × AllWhole fs

abbrev WholeRow : Row → Type 0
WholeRow r = Whole r.front × AllWhole r.fields

-- a text and fields, written with their ESCs
abbrev written_text : Text → List ℕ
written_text (text bs) = escaped bs
written_text broken = []

abbrev written_fields : List Field → List ℕ
written_fields [] = []
written_fields (name_field kind t ∷ fs) = kind ∷ (written_text t ++ written_fields fs)
written_fields (value_field t ∷ fs) = VALUE ∷ (written_text t ++ written_fields fs)

abbrev written_row : Row → List ℕ
written_row r = written_text r.front ++ written_fields r.fields

-- a byte of the text at the front
whole-after : (b : ℕ) (t : Text) → Whole (joins b t) → Whole t
unfolding joins
whole-after b (text bs) w = tt
whole-after b broken w = w

code-written : (b : ℕ) (t : Text) → b ≤ 3 → Whole (joins b t) → written_text (joins b t) ≡ ESC ∷ b ∷ written_text t
unfolding joins
code-written b (text bs) h w = escaped-code b bs h
code-written b broken h w = absurd w

plain-written : (b : ℕ) (t : Text) → 3 < b → Whole (joins b t) → written_text (joins b t) ≡ b ∷ written_text t
unfolding joins
plain-written b (text bs) h w = escaped-plain b bs h
plain-written b broken h w = absurd w

-- a byte of the text at the front, in its written form, before bytes that are their own row, written
stands-back : (b : ℕ) (front rest : List ℕ) → row_of (front ++ rest) ≡ stands b (row_of rest)
    → ((t : Text) → Whole (joins b t) → written_text (joins b t) ≡ front ++ written_text t)
    → (WholeRow (row_of rest) → written_row (row_of rest) ≡ rest)
    → WholeRow (row_of (front ++ rest)) → written_row (row_of (front ++ rest)) ≡ front ++ rest
unfolding stands
stands-back b front rest e written back w =
    let r = row_of rest in
    let v = subst WholeRow e w in
    ap written_row e
    ∙ ap (λ (l : List ℕ). l ++ written_fields r.fields) (written r.front v.0)
    ∙ append_assoc front (written_text r.front) (written_fields r.fields)
    ∙ ap (λ (l : List ℕ). front ++ l) (back (whole-after b r.front v.0, v.1))

-- a row without a bad ESC, written, is the bytes that it was read from
row_back : (bs : List ℕ) → WholeRow (row_of bs) → written_row (row_of bs) ≡ bs
unfolding row_of starts_name starts_value escaped
row_back [] w = refl
row_back (zero ∷ bs) w = ap (λ (l : List ℕ). 0 ∷ l) (row_back bs w.1)
row_back (suc zero ∷ bs) w = ap (λ (l : List ℕ). 1 ∷ l) (row_back bs w.1)
row_back (suc (suc zero) ∷ []) w = absurd w.0
row_back (suc (suc zero) ∷ b ∷ bs) w =
    ⊎_elim (λ above. absurd (subst WholeRow (row-bad-escape b bs above) w).0)
    (λ code. stands-back b (ESC ∷ b ∷ []) bs (row-escape b bs code) (λ t. code-written b t code) (row_back bs) w)
    (below-or-above 3 b)
row_back (suc (suc (suc zero)) ∷ bs) w = ap (λ (l : List ℕ). 3 ∷ l) (row_back bs w.1)
row_back (suc (suc (suc (suc b))) ∷ bs) w =
    let above : 3 < suc (suc (suc (suc b))) = omega arith in
    stands-back (suc (suc (suc (suc b)))) (suc (suc (suc (suc b))) ∷ []) bs refl
    (λ t. plain-written (suc (suc (suc (suc b)))) t above) (row_back bs) w

-- where variables are found in fields, those are whole, and what is written of both is the same
abbrev Writes : List Field → Found → Type 0
Writes fs (variables vs) = AllWhole fs × (written_fields fs ≡ written_variables vs)
Writes fs (fault n) = Unit {0}

writes-defined : (kind : ℕ) (name value : List ℕ) (fs : List Field) (found : Found) → Writes fs found
    → Writes (name_field kind (text name) ∷ value_field (text value) ∷ fs) (add_variable (variable kind name (defined value)) found)
unfolding add_variable written_variables written_variable written_value
writes-defined kind name value fs (variables vs) w = ((tt, (tt, w.0)), rw (append_assoc, w.1))
writes-defined kind name value fs (fault n) w = tt

writes-undefined : (kind : ℕ) (name : List ℕ) (fs : List Field) (found : Found) → Writes fs found
    → Writes (name_field kind (text name) ∷ fs) (add_variable (variable kind name undefined) found)
unfolding add_variable written_variables written_variable written_value
writes-undefined kind name fs (variables vs) w = (
  (tt, w.0),
  ap (λ (l : List ℕ). kind ∷ (escaped name ++ l)) w.1 ∙ ap (λ (l : List ℕ). kind ∷ (l ++ written_variables vs)) (sym (append-nil (escaped name))),
)
writes-undefined kind name fs (fault n) w = tt

writes-limited : (k : ℕ) (fs : List Field) (found : Found) → Writes fs found → Writes fs (limited k found)
unfolding limited
writes-limited k fs found w = choice (Writes fs) (ltb k variable_limit) (λ _. w) (λ _. tt)

names-write : (wrong : Refusal) (k : ℕ) (fs : List Field) → Writes fs (names wrong k fs)
unfolding names whole named written_variables
names-write wrong k [] = (tt, refl)
names-write wrong k (value_field t ∷ fs) = tt
names-write wrong k (name_field kind broken ∷ value_field u ∷ fs) = writes-limited k (name_field kind broken ∷ value_field u ∷ fs) (fault _) tt
names-write wrong k (name_field kind (text []) ∷ value_field u ∷ fs) = writes-limited k (name_field kind (text []) ∷ value_field u ∷ fs) (fault _) tt
names-write wrong k (name_field kind (text (b ∷ bs)) ∷ value_field broken ∷ fs) = writes-limited k (name_field kind (text (b ∷ bs)) ∷ value_field broken ∷ fs) (fault _) tt
names-write wrong k (name_field kind (text (b ∷ bs)) ∷ value_field (text v) ∷ fs) =
    writes-limited k (name_field kind (text (b ∷ bs)) ∷ value_field (text v) ∷ fs) _ (writes-defined kind (b ∷ bs) v fs _ (names-write _ (suc k) fs))
names-write wrong k (name_field kind broken ∷ []) = writes-limited k (name_field kind broken ∷ []) (fault _) tt
names-write wrong k (name_field kind (text []) ∷ []) = writes-limited k (name_field kind (text []) ∷ []) (fault _) tt
names-write wrong k (name_field kind (text (b ∷ bs)) ∷ []) =
    writes-limited k (name_field kind (text (b ∷ bs)) ∷ []) _ (writes-undefined kind (b ∷ bs) [] (variables []) (tt, refl))
names-write wrong k (name_field kind broken ∷ name_field kind₂ u ∷ fs) = writes-limited k (name_field kind broken ∷ name_field kind₂ u ∷ fs) (fault _) tt
names-write wrong k (name_field kind (text []) ∷ name_field kind₂ u ∷ fs) = writes-limited k (name_field kind (text []) ∷ name_field kind₂ u ∷ fs) (fault _) tt
names-write wrong k (name_field kind (text (b ∷ bs)) ∷ name_field kind₂ u ∷ fs) =
    writes-limited k (name_field kind (text (b ∷ bs)) ∷ name_field kind₂ u ∷ fs) _ (writes-undefined kind (b ∷ bs) (name_field kind₂ u ∷ fs) _ (names-write _ (suc k) (name_field kind₂ u ∷ fs)))

-- and so of a row, of the bytes that it was read from, and of a payload
abbrev RowWrites : Row → Found → Type 0
RowWrites r (variables vs) = WholeRow r × (written_row r ≡ written_variables vs)
RowWrites r (fault n) = Unit {0}

row-writes : (t : Text) (fs : List Field) (found : Found) → Writes fs found → RowWrites (record { front = t; fields = fs }) (expect_no_text t found)
unfolding expect_no_text
row-writes broken fs found w = tt
row-writes (text []) fs (variables vs) w = ((tt, w.0), rw (escaped-nil, w.1))
row-writes (text []) fs (fault n) w = tt
row-writes (text (b ∷ bs)) fs found w = tt

abbrev SaysThem : List ℕ → Reading → Type 0
SaysThem p (says first vs) = payload_of first vs ≡ p
SaysThem p (not_read n) = Unit {0}

distinct-writes : (first : ℕ) (bs : List ℕ) (found : Found) → RowWrites (row_of bs) found → SaysThem (first ∷ bs) (distinct first found)
unfolding distinct
distinct-writes first bs (variables vs) w =
    choice (SaysThem (first ∷ bs)) (repeated vs) (λ _. tt) (λ _. ap (λ (l : List ℕ). first ∷ l) (sym w.1 ∙ row_back bs w.0))
distinct-writes first bs (fault n) w = tt

begun-writes : (p : List ℕ) → SaysThem p (begun p)
unfolding begun variables_of
begun-writes [] = tt
begun-writes (b ∷ bs) =
    let r = row_of bs in
    choice (SaysThem (b ∷ bs)) (is_first b)
    (λ _. distinct-writes b bs _ (row-writes r.front r.fields _ (names-write _ 0 r.fields))) (λ _. tt)

pub writes-back : WritesBack
writes-back payload first vs e = ⊎_elim
    (λ long. let said = sym (reading-long payload long) ∙ e in let z : ◌≡◌ {A = ℕ} 0 1 = cc in absurd (omega arith))
    (λ short.
    let same = subst (SaysThem payload) (sym (reading-short payload short) ∙ e) (begun-writes payload) in
    (accepted first vs (subst Reads e (reads payload)) (subst (λ (l : List ℕ). length l ≤ payload_limit) (sym same) short), same))
    (below-or-above payload_limit (length payload))
