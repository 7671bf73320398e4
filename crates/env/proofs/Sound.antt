-- What is read without refusal: IS or INFO and variables of good kinds, with names, at most 64, none twice; and that a
-- row is refused by 21 to 24 alone. Assumes nothing.
use mathlib.Core.Path.{◌≡◌, refl}
use mathlib.Core.Bool.{Bool, true, false, ◌||◌}
use mathlib.Core.List.{List, [], ◌∷◌}
use mathlib.Core.Logic.{⊎_elim}
use Prim.Native.Nat.{ℕ, zero, suc, ◌+◌, ◌≤◌, ◌<◌}
use native.Mathlib.Omega.{arith}
use lib.Dec.{T, leb}
use lib.ListN.{length}
use mir.Facts.{and_yes, yes_and}
use denote.Floats.{passes}
use Rattle.octets.proofs.Choice.{choice}
use Rattle.octets.proofs.Order.{below-or-above}
use Rattle.telnet.specs.Event.{payload_limit}
use Rattle.env.specs.Variable.{undefined, defined, Variable, variable, variable_limit, is_first, is_kind, repeated}
use Rattle.env.specs.Fields.{Text, text, broken, Field, name_field, value_field, Row, stands, escapes, starts_name, starts_value, row_of}
use Rattle.refusal.specs.declared.Refusal.{Refusal}
use Rattle.refusal.specs.Refusal.{number}
use Rattle.env.specs.Read.{Found, variables, fault, add_variable, limited, whole, named, names, expect_no_text, variables_of}
use Rattle.env.specs.Read.{Reading, says, not_read, distinct, begun, reading_of}
use Rattle.env.specs.Write.{kinds_good, is_empty, nameless}
use Rattle.env.proofs.Limits.{reading-short, reading-long, limited-room, limited-full}

-- variables of good kinds, with names, and no more than fit after k others
pub record Sound (k : ℕ) (vs : List Variable) : Type 0 where
  pub kinds : T (kinds_good vs)
  pub full : nameless vs ≡ false
  pub few : k + length vs ≤ variable_limit

-- neither of two tests
pub neither : (s t : Bool) → (s || t) ≡ false → (s ≡ false) × (t ≡ false)
neither true t e = (e, cc)
neither false t e = (refl, e)

-- what the first of them is, and the others
pub record First (k : ℕ) (v : Variable) (vs : List Variable) : Type 0 where
  pub kind : T (is_kind v.kind)
  pub full : is_empty v.name ≡ false
  pub after : Sound (suc k) vs

pub first-sound : (k : ℕ) (v : Variable) (vs : List Variable) → Sound k (v ∷ vs) → First k v vs
unfolding kinds_good nameless
first-sound k v vs s =
    let good = and_yes (is_kind v.kind) (kinds_good vs) s.kinds in
    let have = neither (is_empty v.name) (nameless vs) s.full in
    let fits = s.few in
    record { kind = good.0; full = have.0; after = record { kinds = good.1; full = have.1; few = omega arith } }

sound-first : (k : ℕ) (v : Variable) (vs : List Variable) → First k v vs → Sound k (v ∷ vs)
unfolding kinds_good nameless
sound-first k v vs f =
    let rest = f.after in
    let fits = rest.few in
    record { kinds = yes_and (is_kind v.kind) (kinds_good vs) f.kind rest.kinds; full = rw f.full rest.full; few = omega arith }

-- each field that opens a variable has the kind of one
abbrev Kinds : List Field → Type 0
Kinds [] = Unit {0}
Kinds (name_field b t ∷ fs) = T (is_kind b) × Kinds fs
Kinds (value_field t ∷ fs) = Kinds fs

row-kinds : (bs : List ℕ) → Kinds (row_of bs).fields
unfolding row_of stands escapes starts_name starts_value is_kind
row-kinds [] = tt
row-kinds (zero ∷ bs) = (tt, row-kinds bs)
row-kinds (suc zero ∷ bs) = row-kinds bs
row-kinds (suc (suc zero) ∷ []) = tt
row-kinds (suc (suc zero) ∷ b ∷ bs) = choice (λ (r : Row). Kinds r.fields) (leb b 3) (λ _. row-kinds bs) (λ _. tt)
row-kinds (suc (suc (suc zero)) ∷ bs) = (tt, row-kinds bs)
row-kinds (suc (suc (suc (suc b))) ∷ bs) = row-kinds bs

-- the faults of a row, by their numbers
abbrev pub Inner : Refusal → Type 0
Inner e = (20 < number e) × (number e < 25)

-- what is found is sound, or such a fault
abbrev pub Finds : ℕ → Found → Type 0
Finds k (variables vs) = Sound k vs
Finds k (fault n) = Inner n

finds-none : (k : ℕ) → k ≤ variable_limit → Sound k []
unfolding kinds_good nameless
finds-none k h = record { kinds = tt; full = refl; few = omega arith }

finds-before : (k : ℕ) (v : Variable) (found : Found) → T (is_kind v.kind) → is_empty v.name ≡ false → Finds (suc k) found
    → Finds k (add_variable v found)
unfolding add_variable
finds-before k v (variables vs) g e s = sound-first k v vs (record { kind = g; full = e; after = s })
finds-before k v (fault n) g e s = s

finds-whole : (k : ℕ) (t : Text) (rest : List ℕ → Found) → ((bs : List ℕ) → Finds k (rest bs)) → Finds k (whole t rest)
unfolding whole
finds-whole k broken rest next = omega arith
finds-whole k (text bs) rest next = next bs

-- a variable that opens: there is room for it, and its name is not empty
finds-opened : (k : ℕ) (t : Text) (rest : List ℕ → Found)
    → ((b : ℕ) (bs : List ℕ) → suc k ≤ variable_limit → Finds k (rest (b ∷ bs))) → Finds k (limited k (whole t (named rest)))
unfolding named
finds-opened k t rest next =
    ⊎_elim (λ room. rw (limited-room k (whole t (named rest)) room) (finds-whole k t (named rest) (go room)))
    (λ full. rw (limited-full k (whole t (named rest)) full) (omega arith)) (below-or-above k variable_limit)
  where
    go : suc k ≤ variable_limit → (bs : List ℕ) → Finds k (named rest bs)
    go h [] = omega arith
    go h (b ∷ bs) = next b bs h

finds-names : (wrong : Refusal) (k : ℕ) (fs : List Field) → Inner wrong → Kinds fs → k ≤ variable_limit
    → Finds k (names wrong k fs)
unfolding names is_empty
finds-names wrong k [] i g h = finds-none k h
finds-names wrong k (value_field t ∷ fs) i g h = i
finds-names wrong k (name_field kind t ∷ value_field u ∷ fs) i g h = finds-opened k t _ λ b bs room.
    finds-whole k u _ λ cs.
    finds-before k (variable kind (b ∷ bs) (defined cs)) _ g.0 refl (finds-names _ (suc k) fs (omega arith) g.1 room)
finds-names wrong k (name_field kind t ∷ []) i g h = finds-opened k t _ λ b bs room.
    finds-before k (variable kind (b ∷ bs) undefined) (variables []) g.0 refl (finds-none (suc k) room)
finds-names wrong k (name_field kind t ∷ name_field kind₂ u ∷ fs) i g h = finds-opened k t _ λ b bs room.
    finds-before k (variable kind (b ∷ bs) undefined) _ g.0 refl
    (finds-names _ (suc k) (name_field kind₂ u ∷ fs) (omega arith) g.1 room)

finds-unled : (t : Text) (found : Found) → Finds 0 found → Finds 0 (expect_no_text t found)
unfolding expect_no_text
finds-unled broken found s = omega arith
finds-unled (text []) found s = s
finds-unled (text (b ∷ bs)) found s = omega arith

pub finds-variables : (bs : List ℕ) → Finds 0 (variables_of (row_of bs))
unfolding variables_of
finds-variables bs =
    finds-unled (row_of bs).front _ (finds-names _ 0 (row_of bs).fields (omega arith) (row-kinds bs) (omega arith))

-- what is said without refusal
pub record Says (first : ℕ) (vs : List Variable) : Type 0 where
  pub begins : T (is_first first)
  pub sound : Sound 0 vs
  pub once : repeated vs ≡ false

abbrev pub Reads : Reading → Type 0
Reads (says first vs) = Says first vs
Reads (not_read n) = Unit {0}

reads-distinct : (first : ℕ) (found : Found) → T (is_first first) → Finds 0 found → Reads (distinct first found)
unfolding distinct
reads-distinct first (variables vs) i s = choice Reads (repeated vs) (λ _. tt) (λ e. record { begins = i; sound = s; once = e })
reads-distinct first (fault n) i s = tt

pub reads : (p : List ℕ) → Reads (reading_of p)
unfolding begun
reads p = ⊎_elim (λ long. rw (reading-long p long) tt) (λ short. rw (reading-short p short) (go p)) (below-or-above payload_limit (length p))
  where
    go : (p : List ℕ) → Reads (begun p)
    go [] = tt
    go (b ∷ bs) = choice Reads (is_first b) (λ e. reads-distinct b _ (passes (is_first b) e) (finds-variables bs)) (λ _. tt)
