-- The first fault of a payload decides (`first-fault-decides`), 25 gives way to a fault further right
-- (`repeat-gives-way`), and 3 is told exactly where a payload is too long (`too-long-first`): theorems of `Theorems`.
-- Assumes nothing.
use Rattle.std.specs.Prelude.{if◌then◌else◌}
use mathlib.Core.Path.{◌≡◌, refl, sym, ◌∙◌}
use mathlib.Core.Bool.{Bool, true, false}
use mathlib.Core.List.{List, [], ◌∷◌, ◌++◌}
use mathlib.Core.Logic.{◌⊎◌, inl, inr, ⊎_elim}
use Prim.Native.Nat.{ℕ, suc, ◌+◌, ◌≤◌, ◌<◌}
use native.Mathlib.Omega.{arith}
use lib.Dec.{ltb}
use lib.ListN.{length, length-append}
use Rattle.refusal.specs.declared.Refusal.{Refusal}
use Rattle.refusal.specs.declared.Refusal.TheVariants.{PayloadTooLong, NotIsOrInfo, NoVariable, BadEscape, ValueInValue, TooManyVariables, RepeatedVariable}
use Rattle.refusal.specs.Refusal.{number}
use Rattle.octets.proofs.Choice.{choice}
use Rattle.octets.proofs.Order.{below-or-above}
use Rattle.telnet.specs.Event.{payload_limit}
use Rattle.env.specs.Variable.{Variable, VAR, ESC, USERVAR, variable_limit, is_first, repeated}
use Rattle.env.specs.Fields.{text, broken, name_field, value_field, row, escapes, starts_name, starts_value, row_of}
use Rattle.env.specs.Read.{Found, variables, fault, add_variable, limited, whole, named, names, expect_no_text}
use Rattle.env.specs.Read.{variables_of, Reading, says, not_read, distinct, begun, reading_of}
use Rattle.env.specs.Theorems.{Stays, FirstFaultDecides, RepeatGivesWay, TooLongFirst}
use Rattle.env.proofs.Rows.{prefixed-text}
use Rattle.env.proofs.Limits.{reading-short, reading-long, limited-room}
use Rattle.env.proofs.Sound.{Inner, Finds, finds-variables}
use Rattle.env.proofs.Following.{Gives, Told, Brings, prefixed-broken, past}

same_number : (m n : Refusal) → not_read m ≡ not_read n → number m ≡ number n
same_number m n e = cc

-- the fault n
abbrev By : Refusal → Refusal → Type 0
By n m = not_read m ≡ not_read n

-- variables, some repeated
abbrev Repeats : Found → Type 0
Repeats (fault n) = ⊥
Repeats (variables vs) = repeated vs ≡ true

-- A row is refused by its fault, or by 25 where there is none.
data Decided (found : Found) (n : Refusal) : Type 0 where
  faulty : Told (By n) found → 20 < number n → number n < 25 → Decided found n
  repeats : Repeats found → number n ≡ 25 → Decided found n

decided : (first : ℕ) (found : Found) (n : Refusal) → Finds 0 found → distinct first found ≡ not_read n → Decided found n
unfolding distinct
decided first (fault m) n f e = let same = same_number m n e in faulty e (omega arith) (omega arith)
decided first (variables vs) n f e = go (repeated vs) refl e
  where
    go : (t : Bool) → repeated vs ≡ t → (if t then not_read RepeatedVariable else says first vs) ≡ not_read n → Decided (variables vs) n
    go true r e = repeats r (sym (same_number RepeatedVariable n e))
    go false r e = absurd (let z : ◌≡◌ {A = ℕ} 0 1 = cc in omega arith)

-- A payload that is not too long is refused by its first byte, or by its row.
data Refused (first : ℕ) (rest : List ℕ) (n : Refusal) : Type 0 where
  by_first : is_first first ≡ false → number n ≡ 20 → Refused first rest n
  by_row : is_first first ≡ true → Decided (variables_of (row_of rest)) n → Refused first rest n

begun-refused : (first : ℕ) (rest : List ℕ) (n : Refusal) → begun (first ∷ rest) ≡ not_read n → Refused first rest n
unfolding begun
begun-refused first rest n e = go (is_first first) refl e
  where
    found : Found
    found = variables_of (row_of rest)

    go : (t : Bool) → is_first first ≡ t → (if t then distinct first found else not_read NotIsOrInfo) ≡ not_read n
        → Refused first rest n
    go true i e = by_row i (decided first found n (finds-variables rest) e)
    go false i e = by_first i (sym (same_number NotIsOrInfo n e))

begun-late : (p : List ℕ) (n : Refusal) → begun p ≡ not_read n → 20 ≤ number n
unfolding begun
begun-late [] n e = omega (arith, same_number NotIsOrInfo n e)
begun-late (first ∷ rest) n e = go (begun-refused first rest n e)
  where
    go : Refused first rest n → 20 ≤ number n
    go (by_first i e) = omega arith
    go (by_row i (faulty t low high)) = omega arith
    go (by_row i (repeats r e)) = omega arith

pub too-long-first : TooLongFirst
too-long-first p = (
  λ e. ⊎_elim (λ long. omega arith) (λ short. absurd (omega (arith, begun-late p PayloadTooLong (sym (reading-short p short) ∙ e))))
      (below-or-above payload_limit (length p)),
  λ long. reading-long p (omega arith),
)

refused : (first : ℕ) (rest : List ℕ) (n : Refusal) → 3 < number n → reading_of (first ∷ rest) ≡ not_read n → Refused first rest n
refused first rest n h e =
    let p = first ∷ rest in
    ⊎_elim (λ long. absurd (omega (arith, same_number PayloadTooLong n (sym (reading-long p long) ∙ e))))
    (λ short. begun-refused first rest n (sym (reading-short p short) ∙ e)) (below-or-above payload_limit (length p))

-- what a fault of the row makes of the payload
told-row : (P : Reading → Type 0) (first : ℕ) (rest : List ℕ) → is_first first ≡ true
    → length (first ∷ rest) ≤ payload_limit → Told (λ m. P (not_read m)) (variables_of (row_of rest))
    → P (reading_of (first ∷ rest))
unfolding begun distinct
told-row P first rest i short t = rw (reading-short (first ∷ rest) short, i) (go (variables_of (row_of rest)) t)
  where
    go : (found : Found) → Told (λ m. P (not_read m)) found → P (distinct first found)
    go (fault m) t = t
    go (variables vs) t = absurd t

-- bytes after the first keep their fault
abbrev Keeps : List ℕ → Refusal → Type 0
Keeps bs n = (more : List ℕ) → Told (By n) (variables_of (row_of bs)) → Told (By n) (variables_of (row_of (bs ++ more)))

stays : (first : ℕ) (rest : List ℕ) (n : Refusal) → Inner n → Keeps rest n → reading_of (first ∷ rest) ≡ not_read n
    → Stays (first ∷ rest) n
stays first rest n inner keeps e more short = go (refused first rest n (omega arith) e)
  where
    go : Refused first rest n → reading_of (first ∷ (rest ++ more)) ≡ not_read n
    go (by_first i e) = absurd (omega arith)
    go (by_row i (faulty t low high)) = told-row (λ r. r ≡ not_read n) first (rest ++ more) i short (keeps more t)
    go (by_row i (repeats r e)) = absurd (omega arith)

keeps-none : (n : Refusal) → Keeps [] n
unfolding row_of variables_of expect_no_text names
keeps-none n more x = absurd x

keeps-last : (p : List ℕ) (b : ℕ) (n : Refusal) → (b ≡ ESC → 22 ≡ number n → ⊥) → ((b ≡ VAR) ⊎ (b ≡ USERVAR) → 21 ≡ number n → ⊥)
    → Keeps (p ++ b ∷ []) n
keeps-last p b n esc bare more =
    past (By n) ⊥ (By n) (λ m e. e) p b more (λ e s. esc e (same_number BadEscape n s)) (λ e s. bare e (same_number NoVariable n s))
    (λ x. absurd x)

-- a list by its last byte
data Snoc : List ℕ → Type 0 where
  none : Snoc []
  last : (p : List ℕ) (b : ℕ) → Snoc (p ++ b ∷ [])

snoc : (bs : List ℕ) → Snoc bs
snoc [] = none
snoc (b ∷ bs) = go bs (snoc bs)
  where
    go : (bs : List ℕ) → Snoc bs → Snoc (b ∷ bs)
    go _ none = last [] b
    go _ (last p c) = last (b ∷ p) c

keeps-all : (n : Refusal) → (22 ≡ number n → ⊥) → (21 ≡ number n → ⊥) → (bs : List ℕ) → Keeps bs n
keeps-all n esc bare bs = go bs (snoc bs)
  where
    go : (bs : List ℕ) → Snoc bs → Keeps bs n
    go _ none = keeps-none n
    go _ (last p b) = keeps-last p b n (λ _. esc) (λ _. bare)

first-stays : (b : ℕ) (p : List ℕ) → reading_of (b ∷ p) ≡ not_read NotIsOrInfo → Stays (b ∷ p) NotIsOrInfo
unfolding begun
first-stays b p e more short = go (refused b p NotIsOrInfo (omega arith) e)
  where
    go : Refused b p NotIsOrInfo → reading_of (b ∷ (p ++ more)) ≡ not_read NotIsOrInfo
    go (by_first i e) = rw (reading-short (b ∷ (p ++ more)) short, i)
    go (by_row i (faulty t low high)) = absurd (omega arith)
    go (by_row i (repeats r e)) = absurd (omega arith)

last-stays : (p : List ℕ) (b : ℕ) (n : Refusal) → Inner n → (b ≡ ESC → 22 ≡ number n → ⊥) → ((b ≡ VAR) ⊎ (b ≡ USERVAR) → 21 ≡ number n → ⊥)
    → reading_of (p ++ b ∷ []) ≡ not_read n → Stays (p ++ b ∷ []) n
last-stays [] b n inner esc bare = stays b [] n inner (keeps-none n)
last-stays (first ∷ p) b n inner esc bare = stays first (p ++ b ∷ []) n inner (keeps-last p b n esc bare)

-- an empty payload is refused by 20 alone
not-empty : (n : Refusal) → 20 < number n → reading_of [] ≡ not_read n → ⊥
unfolding begun
not-empty n h e = omega (arith, same_number NotIsOrInfo n (sym (reading-short [] (omega arith)) ∙ e))

all-stays : (p : List ℕ) (n : Refusal) → 22 < number n → number n < 25 → reading_of p ≡ not_read n → Stays p n
all-stays [] n low high e = absurd (not-empty n (omega arith) e)
all-stays (first ∷ rest) n low high e =
    stays first rest n (omega arith) (keeps-all n (omega arith) (omega arith) rest) e

pub first-fault-decides : FirstFaultDecides
first-fault-decides = record {
  not_is_or_info = first-stays;
  no_variable = λ p b var user. last-stays p b NoVariable (omega arith) (omega arith) (λ kind _. ⊎_elim var user kind);
  bad_escape = λ p b esc. last-stays p b BadEscape (omega arith) (omega arith) (omega arith);
  value_in_value = λ p. all-stays p ValueInValue (omega arith) (omega arith);
  too_many = λ p. all-stays p TooManyVariables (omega arith) (omega arith);
}

clear : (found : Found) → Repeats found → Gives (λ _. ⊥) (Unit {0}) found
clear (fault n) x = x
clear (variables vs) e = tt

-- what more bytes do to a row that has no fault but a repeated variable
past-repeats : (M : Refusal → Type 0) (bs more : List ℕ) → Brings M (row_of more) → Snoc bs → Repeats (variables_of (row_of bs))
    → Told M (variables_of (row_of (bs ++ more)))
unfolding row_of variables_of expect_no_text names repeated
past-repeats M _ more brings none e = absurd (let z : ◌≡◌ {A = ℕ} 0 1 = cc in omega arith)
past-repeats M _ more brings (last p b) e =
    past (λ _. ⊥) (Unit {0}) M (λ m x. absurd x) p b more (λ _ x. x) (λ _ x. x) (λ _. brings)
    (clear (variables_of (row_of (p ++ b ∷ []))) e)

-- and to its payload
gives : (P : Reading → Type 0) (first : ℕ) (rest more : List ℕ) → Brings (λ m. P (not_read m)) (row_of more)
    → reading_of (first ∷ rest) ≡ not_read RepeatedVariable → length (first ∷ rest) + length more ≤ payload_limit
    → P (reading_of (first ∷ (rest ++ more)))
gives P first rest more brings e short = go (refused first rest RepeatedVariable (omega arith) e)
  where
    go : Refused first rest RepeatedVariable → P (reading_of (first ∷ (rest ++ more)))
    go (by_first i e) = absurd (omega arith)
    go (by_row i (faulty t low high)) = absurd (omega arith)
    go (by_row i (repeats r e)) =
        told-row P first (rest ++ more) i (omega (arith, length-append rest more))
        (past-repeats (λ m. P (not_read m)) rest more brings (snoc rest) r)

brings-broken : Brings (By BadEscape) (row broken [])
unfolding names whole
brings-broken = record {
  name = λ b bs wrong k kind room. rw (prefixed-broken (b ∷ bs), limited-room k _ room) refl;
  value = λ bs k v. rw (prefixed-broken bs) refl;
}

brings-values : Brings (By ValueInValue) (row (text []) (value_field (text []) ∷ value_field (text []) ∷ []))
unfolding names whole named add_variable
brings-values = record {
  name = λ b bs wrong k kind room. rw (prefixed-text (b ∷ bs) [] _, limited-room k _ room) refl;
  value = λ bs k v. rw (prefixed-text bs [] _) refl;
}

-- a variable without a name, or the 65th
nameless : (v : Variable) (k : ℕ) → Told (λ m. By NoVariable m ⊎ By TooManyVariables m) (add_variable v (limited k (fault NoVariable)))
unfolding add_variable limited
nameless v k =
    choice (λ f. Told (λ m. By NoVariable m ⊎ By TooManyVariables m) (add_variable v f)) (ltb k variable_limit) (λ _. inl refl) (λ _. inr refl)

brings-variable : Brings (λ m. By NoVariable m ⊎ By TooManyVariables m) (row (text []) (name_field VAR (text []) ∷ value_field (text []) ∷ []))
unfolding names whole named
brings-variable = record {
  name = λ b bs wrong k kind room. rw (prefixed-text (b ∷ bs) [] _, limited-room k _ room) (nameless _ (suc k));
  value = λ bs k v. rw (prefixed-text bs [] _) (nameless _ k);
}

pub repeat-gives-way : RepeatGivesWay
unfolding row_of escapes starts_name starts_value
repeat-gives-way [] h e = absurd (not-empty RepeatedVariable (omega arith) e)
repeat-gives-way (first ∷ rest) h e = record {
  bad_escape = gives (λ r. r ≡ not_read BadEscape) first rest _ brings-broken e (omega arith);
  value_in_value = gives (λ r. r ≡ not_read ValueInValue) first rest _ brings-values e (omega arith);
  no_variable = gives (λ r. (r ≡ not_read NoVariable) ⊎ (r ≡ not_read TooManyVariables)) first rest _ brings-variable e (omega arith);
}
