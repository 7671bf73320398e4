-- The laws of the turns of name reader and value reader: what the fields say of the variables, and how what is stored
-- after a name or a value becomes what is stored from it on. Assumes nothing.
use Rattle.std.specs.Prelude.{Result, Ok, Err}
use mathlib.Core.Path.{◌≡◌, refl, sym, ap, ◌∙◌}
use mathlib.Core.Bool.{true, false}
use mathlib.Core.List.{List, [], ◌∷◌, ◌++◌}
use Prim.Native.Nat.{ℕ, zero, suc, ◌+◌, ◌*◌, ◌≤◌, ◌<◌}
use native.Mathlib.Nat.{add-zero}
use native.Mathlib.Numerals.{add-one}
use native.Mathlib.Omega.{arith}
use borrow.Author.Tests.{eqb-true, lt-ltb, le-ltb}
use lib.Dec.{leb}
use lib.ListN.{length, get_or, drop, length-append}
use Rattle.env_variables.specs.declared.Held.{Held}
use Rattle.refusal.specs.declared.Refusal.{Refusal}
use Rattle.env_variables.specs.Internal.Found.{Buffers, held, buffers, NameRead}
use Rattle.env_variables.specs.Internal.Texts.{gives_value, mark_at, IsTaken}
use Rattle.env_variables.specs.Internal.Turns.{from_name, Valued, valued, bad_value, followed, from_value, completed}
use Rattle.env_variables.specs.Internal.Turns.{IsValue, ValueRead}
use Rattle.env_text.specs.declared.Text.{Text as Taken}
use Rattle.env_text.specs.Text.{text_of, ends_text}
use Rattle.env_text.proofs.Standing.{row-marked}
use Rattle.env.specs.Variable.{Value, undefined, defined, variable, variable_limit, VAR, USERVAR, is_kind}
use Rattle.env.specs.Fields.{Text, text, broken, Field, name_field, value_field, row, row_of, joins, stands, escapes, starts_name, starts_value}
use Rattle.env.specs.Read.{Found, variables, fault, add_variable, limited, whole, named, names, expect_no_text}
use Rattle.env.specs.Numbers.{list_limit, record_width, variable_record, numbers_of, mark_of, bytes_of, packed, recorded}
use Rattle.refusal.specs.declared.Refusal.TheVariants.{NoVariable, BadEscape, ValueInValue, TooManyVariables}
use Rattle.env.proofs.Rows.{row-kind}
use Rattle.env.proofs.Holding.{length-recorded}
use Rattle.octets.specs.Lent.{overwrite}
use Rattle.octets.proofs.Choice.{choice}
use Rattle.octets.proofs.Overwrite.{overwrite-nil, overwrite-append, length-overwrite}

-- the fields of a variable, turn by turn
before-completed : (kind : ℕ) (name : List ℕ) (v : Value) (found : Found) → add_variable (variable kind name v) found ≡ completed kind name (followed v found)
unfolding add_variable completed followed
before-completed kind name v (variables vs) = refl
before-completed kind name v (fault n) = refl

module _ (wrong : Refusal) (k kind : ℕ) where
  pub names-full : (t : Text) (fs : List Field) → variable_limit ≤ k → names wrong k (name_field kind t ∷ fs) ≡ fault TooManyVariables
  unfolding names limited
  names-full t [] h = rw (le-ltb k variable_limit h)
  names-full t (name_field kind₂ u ∷ fs) h = rw (le-ltb k variable_limit h)
  names-full t (value_field u ∷ fs) h = rw (le-ltb k variable_limit h)

  pub names-broken : (fs : List Field) → k < variable_limit → names wrong k (name_field kind broken ∷ fs) ≡ fault BadEscape
  unfolding names limited whole
  names-broken [] h = rw (lt-ltb k variable_limit h)
  names-broken (name_field kind₂ u ∷ fs) h = rw (lt-ltb k variable_limit h)
  names-broken (value_field u ∷ fs) h = rw (lt-ltb k variable_limit h)

  pub names-empty : (fs : List Field) → k < variable_limit → names wrong k (name_field kind (text []) ∷ fs) ≡ fault NoVariable
  unfolding names limited whole named
  names-empty [] h = rw (lt-ltb k variable_limit h)
  names-empty (name_field kind₂ u ∷ fs) h = rw (lt-ltb k variable_limit h)
  names-empty (value_field u ∷ fs) h = rw (lt-ltb k variable_limit h)

  pub names-turn : (b : ℕ) (bs : List ℕ) (fs : List Field) → k < variable_limit
      → names wrong k (name_field kind (text (b ∷ bs)) ∷ fs) ≡ completed kind (b ∷ bs) (from_value k fs)
  unfolding names limited whole named from_value completed
  names-turn b bs [] h = rw (lt-ltb k variable_limit h) (before-completed kind (b ∷ bs) undefined (variables []))
  names-turn b bs (name_field kind₂ u ∷ fs) h = rw (lt-ltb k variable_limit h) (before-completed kind (b ∷ bs) undefined (names NoVariable (suc k) (name_field kind₂ u ∷ fs)))
  names-turn b bs (value_field broken ∷ fs) h = rw (lt-ltb k variable_limit h)
  names-turn b bs (value_field (text v) ∷ fs) h = rw (lt-ltb k variable_limit h) (before-completed kind (b ∷ bs) (defined v) (names ValueInValue (suc k) fs))

-- what is stored from a value on, with the name before it
pub with-name : (kind : ℕ) (name : List ℕ) (found : Valued) (at k : ℕ) (bytes₀ numbers₀ : List ℕ) (r : Result Held Refusal) (bytes numbers : List ℕ)
    → ValueRead found kind at (length name) k (buffers (overwrite bytes₀ at name) numbers₀) r (buffers bytes numbers) → at + length name ≤ length bytes₀
    → NameRead (completed kind name found) at k (buffers bytes₀ numbers₀) r (buffers bytes numbers)
unfolding ValueRead NameRead completed packed recorded
with-name kind name (bad_value n) at k bytes₀ numbers₀ r bytes numbers is h = is
with-name kind name (valued v vs) at k bytes₀ numbers₀ r bytes numbers is h =
    let l = length-overwrite bytes₀ at name h in
    let more = bytes_of v ++ packed vs in
    let room : at + (length name + length more) ≤ length bytes₀ = omega (arith, is.within, l) in
    let used : at + length name + length more ≡ at + length (name ++ more) = omega (arith, length-append name more) in
    record {
      answer = is.answer ∙ ap (λ u. Ok (held (k + suc (length vs)) u)) used;
      limit = is.limit;
      within = rw length-append room;
      texts = is.texts ∙ overwrite-append bytes₀ at name more room;
      records = is.records;
    }

-- what is stored from the next name on, with the value before it
pub with_value : (kind : ℕ) (v : Value) (found : Found) (at n k : ℕ) (bytes₀ numbers₀ : List ℕ) (r : Result Held Refusal) (bytes numbers : List ℕ)
    → let x = bytes_of v in
    NameRead found (at + n + length x) (k + 1)
    (buffers (overwrite bytes₀ (at + n) x) (overwrite numbers₀ (record_width * k) (numbers_of (variable_record kind at n (at + n) (length x) (mark_of v)))))
    r (buffers bytes numbers)
    → at + n + length x ≤ length bytes₀ → k < variable_limit → list_limit ≤ length numbers₀
    → ValueRead (followed v found) kind at n k (buffers bytes₀ numbers₀) r (buffers bytes numbers)
unfolding ValueRead NameRead followed
with_value kind v (fault m) at n k bytes₀ numbers₀ r bytes numbers is h g room = is
with_value kind v (variables vs) at n k bytes₀ numbers₀ r bytes numbers is h g room =
    let x = bytes_of v in
    let l = length-overwrite bytes₀ (at + n) x h in
    let fit : at + n + (length x + length (packed vs)) ≤ length bytes₀ = omega (arith, is.within, l) in
    let this = numbers_of (variable_record kind at n (at + n) (length x) (mark_of v)) in
    let more = recorded (at + n + length x) vs in
    let count : k + 1 + length vs ≡ k + suc (length vs) = omega arith in
    let used : at + n + length x + length (packed vs) ≡ at + n + length (x ++ packed vs) = omega (arith, length-append x (packed vs)) in
    let place : record_width * (k + 1) ≡ record_width * k + record_width = omega arith in
    let list : record_width * k + (record_width + length more) ≤ length numbers₀ = omega (arith, is.limit, length-recorded (at + n + length x) vs) in
    record {
      answer = is.answer ∙ rw (count, used);
      limit = omega (arith, is.limit);
      within = rw length-append fit;
      texts = is.texts ∙ overwrite-append bytes₀ (at + n) x (packed vs) fit;
      records = is.records ∙ rw place (overwrite-append numbers₀ (record_width * k) this more list);
    }

-- by the first byte of the rest
no_text : (b : ℕ) (t : Text) (found : Found) → expect_no_text (joins b t) found ≡ fault NoVariable
unfolding expect_no_text joins
no_text b (text bs) found = refl
no_text b broken found = refl

module _ (wrong : Refusal) (k : ℕ) where
  pub from-nil : (l : List ℕ) → length l ≡ 0 → from_name wrong k (row_of l) ≡ variables []
  unfolding row_of expect_no_text names
  from-nil [] h = refl
  from-nil (b ∷ bs) h = absurd (omega arith)

  pub from-value : (l : List ℕ) → 0 < length l → get_or l 0 0 ≡ 1 → from_name wrong k (row_of l) ≡ fault wrong
  unfolding row_of starts_value expect_no_text names
  from-value [] h e = absurd (omega arith)
  from-value (b ∷ bs) h e = rw e

  pub from-other : (l : List ℕ) → 0 < length l → (get_or l 0 0 ≡ 1 → ⊥) → is_kind (get_or l 0 0) ≡ false → from_name wrong k (row_of l) ≡ fault NoVariable
  unfolding row_of stands escapes expect_no_text is_kind
  from-other [] h n e = absurd (omega arith)
  from-other (zero ∷ bs) h n e = cc
  from-other (suc zero ∷ bs) h n e = absurd (n refl)
  from-other (suc (suc zero) ∷ []) h n e = refl
  from-other (suc (suc zero) ∷ b ∷ bs) h n e =
      choice (λ r. from_name wrong k r ≡ fault NoVariable) (leb b 3)
      (λ t. no_text b (row_of bs).front (names wrong k (row_of bs).fields))
      (λ t. refl)
  from-other (suc (suc (suc zero)) ∷ bs) h n e = cc
  from-other (suc (suc (suc (suc b))) ∷ bs) h n e = no_text (suc (suc (suc (suc b)))) (row_of bs).front (names wrong k (row_of bs).fields)

  pub from-kind : (l : List ℕ) → 0 < length l → is_kind (get_or l 0 0) ≡ true
      → from_name wrong k (row_of l) ≡ names wrong k (name_field (get_or l 0 0) (row_of (drop 1 l)).front ∷ (row_of (drop 1 l)).fields)
  unfolding starts_name expect_no_text
  from-kind [] h e = absurd (omega arith)
  from-kind (b ∷ bs) h e = rw (row-kind b bs (rw e tt))

pub name-fault : (found : Found) (n : Refusal) (at k : ℕ) (before after : Buffers) → found ≡ fault n → NameRead found at k before (Err n) after
unfolding NameRead
name-fault found n at k before after e = rw e

pub name-none : (found : Found) (at k : ℕ) (b : Buffers)
    → found ≡ variables [] → k ≤ variable_limit → at ≤ length b.bytes → NameRead found at k b (Ok (held k at)) b
unfolding NameRead packed recorded
name-none found at k b e h g = rw e (record {
  answer = simp add-zero;
  limit = omega arith;
  within = omega arith;
  texts = sym (overwrite-nil b.bytes at);
  records = sym (overwrite-nil b.numbers (record_width * k));
})

names-turn-of : (wrong : Refusal) (k kind : ℕ) (name : List ℕ) (fs : List Field) → k < variable_limit → 0 < length name
    → names wrong k (name_field kind (text name) ∷ fs) ≡ completed kind name (from_value k fs)
names-turn-of wrong k kind [] fs h n = absurd (omega arith)
names-turn-of wrong k kind (b ∷ bs) fs h n = names-turn wrong k kind b bs fs h

-- a name gives way to its value
pub name-turn : (wrong : Refusal) (at k : ℕ) (l bytes₀ bytes₁ numbers₀ : List ℕ) (t : Taken) (r : Result Held Refusal) (bytes numbers : List ℕ)
    → IsTaken l bytes₀ at t bytes₁ → t.whole ≡ true → 0 < t.length → 0 < length l → is_kind (get_or l 0 0) ≡ true → k < variable_limit
    → at + length l ≤ length bytes₀
    → ValueRead (from_value k (row_of (drop t.end l)).fields) (get_or l 0 0) at t.length k (buffers bytes₁ numbers₀) r (buffers bytes numbers)
    → NameRead (from_name wrong k (row_of l)) at k (buffers bytes₀ numbers₀) r (buffers bytes numbers)
name-turn wrong at k l bytes₀ bytes₁ numbers₀ t r bytes numbers is w n h e g room more =
    let name = (text_of (drop 1 l)).bytes in
    let kind = get_or l 0 0 in
    let fs = (row_of (drop t.end l)).fields in
    let some : 0 < length name = omega (arith, is.count) in
    let fit : at + length name ≤ length bytes₀ = omega (arith, is.count, is.forward, is.within) in
    let found : from_name wrong k (row_of l) ≡ completed kind name (from_value k fs) =
    from-kind wrong k l h e ∙ ap (λ q. names wrong k (name_field kind q.front ∷ q.fields)) (is.good w) ∙ names-turn-of wrong k kind name fs g some in
    rw found (with-name kind name (from_value k fs) at k bytes₀ numbers₀ r bytes numbers (rw (← is.texts w, ← is.count) more) fit)

-- where there is no text, the name reader's finding is that of the fields
from-marked : (wrong : Refusal) (k : ℕ) (l : List ℕ) → ends_text l ≡ true → from_name wrong k (row_of l) ≡ names wrong k (row_of l).fields
unfolding expect_no_text
from-marked wrong k l m = rw (row-marked l m)

-- where a name comes next, what a VALUE would be refused by is of no account
any-number : (m n : Refusal) (k kind : ℕ) (u : Text) (fs : List Field) → names m k (name_field kind u ∷ fs) ≡ names n k (name_field kind u ∷ fs)
unfolding names
any-number m n k kind u [] = refl
any-number m n k kind u (name_field kind₂ v ∷ fs) = refl
any-number m n k kind u (value_field v ∷ fs) = refl

value-of-none : (k : ℕ) (l : List ℕ) → ends_text l ≡ true → gives_value l ≡ false
    → from_value k (row_of l).fields ≡ followed undefined (names ValueInValue (suc k) (row_of l).fields)
unfolding ends_text gives_value row_of starts_name from_value names
value-of-none k [] m e = refl
value-of-none k (zero ∷ bs) m e = ap (followed undefined) (any-number NoVariable ValueInValue (suc k) VAR (row_of bs).front (row_of bs).fields)
value-of-none k (suc zero ∷ bs) m e = cc
value-of-none k (suc (suc zero) ∷ bs) m e = cc
value-of-none k (suc (suc (suc zero)) ∷ bs) m e = ap (followed undefined) (any-number NoVariable ValueInValue (suc k) USERVAR (row_of bs).front (row_of bs).fields)
value-of-none k (suc (suc (suc (suc b))) ∷ bs) m e = cc

value_of : (k : ℕ) (l : List ℕ) → gives_value l ≡ true → (row_of l).fields ≡ value_field (row_of (drop 1 l)).front ∷ (row_of (drop 1 l)).fields
unfolding gives_value row_of starts_value
value_of k [] e = cc
value_of k (b ∷ bs) e = rw (eqb-true b 1 e)

-- what the name reader finds where there is no text, one variable further
next-name : (k : ℕ) (l : List ℕ) → ends_text l ≡ true → names ValueInValue (suc k) (row_of l).fields ≡ from_name ValueInValue (k + 1) (row_of l)
next-name k l m = ap (λ i. names ValueInValue i (row_of l).fields) (sym (add-one k)) ∙ sym (from-marked ValueInValue (k + 1) l m)

-- a name without VALUE
pub no_value : (l bytes : List ℕ) (at : ℕ) → ends_text l ≡ true → gives_value l ≡ false
    → IsValue l bytes at (record { whole = true; length = 0; end = 0 }) bytes
unfolding mark_at mark_of bytes_of
no_value l bytes at m e = record {
  value = undefined;
  bad = λ w k. cc;
  good = λ w k. value-of-none k l m e ∙ ap (followed undefined) (next-name k l m);
  texts = λ w. sym (overwrite-nil bytes at);
  mark = rw e;
  count = refl;
  forward = omega arith;
  within = omega arith;
}

value-broken : (k : ℕ) (l : List ℕ) → gives_value l ≡ true → (row_of (drop 1 l)).front ≡ broken → from_value k (row_of l).fields ≡ bad_value BadEscape
unfolding from_value
value-broken k l e b = rw (value_of k l e, b)

value-whole : (k : ℕ) (l v : List ℕ) (fs : List Field) → gives_value l ≡ true → row_of (drop 1 l) ≡ row (text v) fs
    → from_value k (row_of l).fields ≡ followed (defined v) (names ValueInValue (suc k) fs)
unfolding from_value
value-whole k l v fs e g = rw (value_of k l e, g)

-- a VALUE and the text after it
pub some-value : (l bytes₀ : List ℕ) (at : ℕ) (t : Taken) (bytes : List ℕ) → gives_value l ≡ true → IsTaken l bytes₀ at t bytes → IsValue l bytes₀ at t bytes
unfolding mark_at mark_of bytes_of
some-value l bytes₀ at t bytes e is = record {
  value = defined (text_of (drop 1 l)).bytes;
  bad = λ w k. value-broken k l e (is.bad w);
  good = λ w k. value-whole k l _ _ e (is.good w) ∙ ap (followed (defined (text_of (drop 1 l)).bytes)) (next-name k (drop t.end l) (is.mark w));
  texts = is.texts;
  mark = rw e;
  count = is.count;
  forward = omega (arith, is.forward);
  within = is.within;
}

-- a value gives way to the next name
pub value-turn : (kind at n k : ℕ) (l bytes₀ bytes₁ numbers₀ : List ℕ) (t : Taken) (r : Result Held Refusal) (bytes numbers : List ℕ)
    → IsValue l bytes₀ (at + n) t bytes₁ → t.whole ≡ true → at + n + length l ≤ length bytes₀ → k < variable_limit → list_limit ≤ length numbers₀
    → NameRead (from_name ValueInValue (k + 1) (row_of (drop t.end l))) (at + n + t.length) (k + 1)
    (buffers bytes₁ (overwrite numbers₀ (record_width * k) (numbers_of (variable_record kind at n (at + n) t.length (mark_at l))))) r (buffers bytes numbers)
    → ValueRead (from_value k (row_of l).fields) kind at n k (buffers bytes₀ numbers₀) r (buffers bytes numbers)
value-turn kind at n k l bytes₀ bytes₁ numbers₀ t r bytes numbers is w h g room more =
    let found = from_name ValueInValue (k + 1) (row_of (drop t.end l)) in
    let fit : at + n + length (bytes_of is.value) ≤ length bytes₀ = omega (arith, is.count, is.forward, is.within) in
    rw (is.good w k) (with_value kind is.value found at n k bytes₀ numbers₀ r bytes numbers (rw (← is.texts w, ← is.mark, ← is.count) more) fit g room)

pub value-fault : (found : Valued) (m : Refusal) (kind at n k : ℕ) (before after : Buffers) → found ≡ bad_value m → ValueRead found kind at n k before (Err m) after
unfolding ValueRead
value-fault found m kind at n k before after e = rw e
