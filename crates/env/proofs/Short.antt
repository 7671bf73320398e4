-- The names and values of a payload take no more bytes than the payload (`reading-fitting`), field by field. Assumes
-- nothing.
use mathlib.Core.List.{List, [], ◌∷◌, ◌++◌}
use mathlib.Core.Logic.{⊎_elim}
use Prim.Native.Nat.{ℕ, zero, suc, ◌+◌, ◌≤◌}
use native.Mathlib.Omega.{arith}
use lib.Dec.{leb, ltb}
use lib.ListN.{length, length-append}
use Rattle.refusal.specs.declared.Refusal.{Refusal}
use Rattle.refusal.specs.declared.Refusal.TheVariants.{NoVariable}
use Rattle.octets.proofs.Choice.{choice}
use Rattle.octets.proofs.Order.{below-or-above}
use Rattle.telnet.specs.Event.{payload_limit}
use Rattle.env.specs.Variable.{undefined, defined, Variable, variable, variable_limit, is_first, repeated}
use Rattle.env.specs.Fields.{Text, text, broken, Field, name_field, value_field, Row, joins, stands, escapes, starts_name, starts_value, row_of}
use Rattle.env.specs.Read.{Found, variables, fault, add_variable, limited, whole, named, names, expect_no_text, variables_of}
use Rattle.env.specs.Read.{Reading, says, not_read, distinct, begun, reading_of}
use Rattle.env.specs.Numbers.{bytes_of, packed}
use Rattle.env.proofs.Limits.{reading-short, reading-long}

-- the bytes of texts
abbrev text_size : Text → ℕ
text_size (text bs) = length bs
text_size broken = 0

abbrev fields_size : List Field → ℕ
fields_size [] = 0
fields_size (name_field kind t ∷ fs) = text_size t + fields_size fs
fields_size (value_field t ∷ fs) = text_size t + fields_size fs

abbrev row_size : Row → ℕ
row_size r = text_size r.front + fields_size r.fields

stands-size : (b : ℕ) (t : Text) → text_size (joins b t) ≤ suc (text_size t)
unfolding joins
stands-size b (text bs) = omega arith
stands-size b broken = omega arith

row-size : (bs : List ℕ) → row_size (row_of bs) ≤ length bs
unfolding row_of stands escapes starts_name starts_value
row-size [] = omega arith
row-size (zero ∷ bs) = omega (arith, row-size bs)
row-size (suc zero ∷ bs) = omega (arith, row-size bs)
row-size (suc (suc zero) ∷ []) = omega arith
row-size (suc (suc zero) ∷ b ∷ bs) =
    let l = row-size bs in
    choice (λ r. row_size r ≤ suc (suc (length bs))) (leb b 3) (λ _. omega (arith, l, stands-size b (row_of bs).front)) (λ _. omega arith)
row-size (suc (suc (suc zero)) ∷ bs) = omega (arith, row-size bs)
row-size (suc (suc (suc (suc b))) ∷ bs) = omega (arith, row-size bs, stands-size (suc (suc (suc (suc b)))) (row_of bs).front)

-- variables that take at most n bytes, where some were found
abbrev Small : ℕ → Found → Type 0
Small n (variables vs) = length (packed vs) ≤ n
Small n (fault m) = Unit {0}

wider : (n m : ℕ) (found : Found) → n ≤ m → Small n found → Small m found
wider n m (variables vs) h s = omega arith
wider n m (fault k) h s = tt

small-before : (v : Variable) (found : Found) (n : ℕ) → Small n found
    → Small (length v.name + (length (bytes_of v.value) + n)) (add_variable v found)
unfolding add_variable packed
small-before v (variables vs) n h =
    let value = bytes_of v.value in
    omega (arith, length-append v.name (value ++ packed vs), length-append value (packed vs))
small-before v (fault m) n h = tt

small-alone : (kind : ℕ) (name : List ℕ) (found : Found) (n : ℕ) → Small n found → Small (length name + n) (add_variable (variable kind name undefined) found)
unfolding add_variable packed bytes_of
small-alone kind name (variables vs) n h = omega (arith, length-append name (packed vs))
small-alone kind name (fault m) n h = tt

small-limited : (k n : ℕ) (found : Found) → Small n found → Small n (limited k found)
unfolding limited
small-limited k n found h = choice (Small n) (ltb k variable_limit) (λ _. h) (λ _. tt)

names-small : (wrong : Refusal) (k : ℕ) (fs : List Field) → Small (fields_size fs) (names wrong k fs)
unfolding names whole named packed bytes_of
names-small wrong k [] = omega arith
names-small wrong k (value_field t ∷ fs) = tt
names-small wrong k (name_field kind broken ∷ value_field u ∷ fs) = small-limited k _ (fault _) tt
names-small wrong k (name_field kind (text []) ∷ value_field u ∷ fs) = small-limited k _ (fault _) tt
names-small wrong k (name_field kind (text (b ∷ bs)) ∷ value_field broken ∷ fs) = small-limited k _ (fault _) tt
names-small wrong k (name_field kind (text (b ∷ bs)) ∷ value_field (text v) ∷ fs) =
    small-limited k _ _ (small-before (variable kind (b ∷ bs) (defined v)) _ (fields_size fs) (names-small _ (suc k) fs))
names-small wrong k (name_field kind broken ∷ []) = small-limited k _ (fault _) tt
names-small wrong k (name_field kind (text []) ∷ []) = small-limited k _ (fault _) tt
names-small wrong k (name_field kind (text (b ∷ bs)) ∷ []) = small-limited k _ _ (small-before (variable kind (b ∷ bs) undefined) (variables []) 0 (omega arith))
names-small wrong k (name_field kind broken ∷ name_field kind₂ u ∷ fs) = small-limited k _ (fault _) tt
names-small wrong k (name_field kind (text []) ∷ name_field kind₂ u ∷ fs) = small-limited k _ (fault _) tt
names-small wrong k (name_field kind (text (b ∷ bs)) ∷ name_field kind₂ u ∷ fs) =
    small-limited k _ _ (small-alone kind (b ∷ bs) _ _ (names-small _ (suc k) (name_field kind₂ u ∷ fs)))

unled-small : (n : ℕ) (t : Text) (found : Found) → Small n found → Small n (expect_no_text t found)
unfolding expect_no_text
unled-small n broken found s = tt
unled-small n (text []) found s = s
unled-small n (text (b ∷ bs)) found s = tt

variables-small : (bs : List ℕ) → Small (length bs) (variables_of (row_of bs))
unfolding variables_of
variables-small bs =
    let found = names NoVariable 0 (row_of bs).fields in
    unled-small (length bs) (row_of bs).front found
    (wider (fields_size (row_of bs).fields) (length bs) found (omega (arith, row-size bs)) (names-small NoVariable 0 (row_of bs).fields))

-- a reading whose variables take at most n bytes
abbrev pub Fitting : ℕ → Reading → Type 0
Fitting n (says first vs) = length (packed vs) ≤ n
Fitting n (not_read m) = Unit {0}

distinct-fitting : (n first : ℕ) (found : Found) → Small n found → Fitting n (distinct first found)
unfolding distinct
distinct-fitting n first (variables vs) s = choice (Fitting n) (repeated vs) (λ _. tt) (λ _. s)
distinct-fitting n first (fault m) s = tt

-- what is said in a payload takes at most the bytes that a payload may have
pub reading-fitting : (p : List ℕ) → Fitting payload_limit (reading_of p)
unfolding begun
reading-fitting p =
    ⊎_elim (λ long. rw (reading-long p long) tt) (λ short. rw (reading-short p short) (go p short)) (below-or-above payload_limit (length p))
  where
    go : (p : List ℕ) → length p ≤ payload_limit → Fitting payload_limit (begun p)
    go [] h = tt
    go (b ∷ bs) h =
        choice (Fitting payload_limit) (is_first b)
        (λ _. distinct-fitting payload_limit b (variables_of (row_of bs)) (wider (length bs) payload_limit (variables_of (row_of bs)) (omega arith) (variables-small bs)))
        (λ _. tt)
