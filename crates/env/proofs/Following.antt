-- What is found in bytes that go on, by what is found in them alone (`past`): what is decided stays so, and only the
-- last text is read on. Assumes nothing.
use mathlib.Core.Path.{◌≡◌, refl}
use mathlib.Core.List.{List, [], ◌∷◌, ◌++◌, append-nil}
use mathlib.Core.Logic.{◌⊎◌, ⊎_elim}
use Prim.Native.Nat.{ℕ, suc, ◌≤◌, ◌<◌}
use lib.Dec.{leb, ltb}
use Rattle.refusal.specs.declared.Refusal.{Refusal}
use Rattle.refusal.specs.declared.Refusal.TheVariants.{NoVariable, BadEscape, ValueInValue, TooManyVariables}
use Rattle.octets.proofs.Choice.{choice, choice₂}
use Rattle.octets.proofs.Order.{below-or-above}
use Rattle.env.specs.Variable.{undefined, defined, Variable, variable, VAR, ESC, USERVAR, variable_limit}
use Rattle.env.specs.Fields.{Text, text, broken, Field, name_field, value_field, Row, row, joins, stands}
use Rattle.env.specs.Fields.{escapes, starts_name, starts_value, row_of}
use Rattle.env.specs.Read.{Found, variables, fault, add_variable, limited, whole, named, names, expect_no_text}
use Rattle.env.specs.Read.{variables_of}
use Rattle.env.proofs.Rows.{prefixed, prefixed-text}
use Rattle.env.proofs.Limits.{limited-room, limited-full}
use Rattle.env.proofs.Longer.{glued, glue, last_name, end_name, end, Ended, shut, waits, parted, parted-now}

-- what is said of a fault, and of variables
abbrev pub Gives : (Refusal → Type 0) → Type 0 → Found → Type 0
Gives N C (fault e) = N e
Gives N C (variables vs) = C

-- a fault that is as N says
abbrev pub Told : (Refusal → Type 0) → Found → Type 0
Told N = Gives N ⊥

-- what is found from a name on, and from a value on
abbrev pub from_name : Refusal → ℕ → ℕ → Row → Found
from_name wrong k kind r = names wrong k (name_field kind r.front ∷ r.fields)

abbrev pub from_value : ℕ → (List ℕ → Variable) → Row → Found
from_value k v r = whole r.front (λ value. add_variable (v value) (names ValueInValue k r.fields))

-- a row that brings a fault after a name that is not empty, and after a value
pub record Brings (M : Refusal → Type 0) (r : Row) : Type 0 where
  pub name : (b : ℕ) (bs : List ℕ) (wrong : Refusal) (k kind : ℕ) → k < variable_limit
      → Told M (from_name wrong k kind (prefixed (b ∷ bs) r))
  pub value : (bs : List ℕ) (k : ℕ) (v : List ℕ → Variable) → Told M (from_value k v (prefixed bs r))

pub prefixed-broken : (bs : List ℕ) → prefixed bs (row broken []) ≡ row broken []
unfolding prefixed stands joins
prefixed-broken [] = refl
prefixed-broken (b ∷ bs) = rw (prefixed-broken bs)

prefixed-end : (bs : List ℕ) → prefixed bs end ≡ row (text bs) []
prefixed-end bs = rw (prefixed-text bs [] [], append-nil)

-- a byte of text, and an ESC, where the first variable is expected
led : (b : ℕ) (t : Text) (f : Found) → expect_no_text (joins b t) f ≡ fault NoVariable
unfolding expect_no_text joins
led b (text bs) f = refl
led b broken f = refl

esc-leads : (more : List ℕ) (f : Found) → expect_no_text (row_of (ESC ∷ more)).front f ≡ fault NoVariable
unfolding row_of escapes stands expect_no_text
esc-leads [] f = refl
esc-leads (b ∷ more) f =
    choice (λ (r : Row). expect_no_text r.front f ≡ fault NoVariable) (leb b 3) (λ _. led b (row_of more).front f)
    (λ _. refl)

-- a variable that opens where there are 64
full-name : (wrong : Refusal) (k kind : ℕ) (r : Row) → variable_limit ≤ k → from_name wrong k kind r ≡ fault TooManyVariables
unfolding names
full-name wrong k kind r h = go r.front r.fields
  where
    go : (t : Text) (fs : List Field) → names wrong k (name_field kind t ∷ fs) ≡ fault TooManyVariables
    go t [] = limited-full k _ h
    go t (name_field kind₂ u ∷ fs) = limited-full k _ h
    go t (value_field u ∷ fs) = limited-full k _ h

-- Two findings: where the first is a fault as N says, or variables and C holds, the second is a fault as M says.
module _ (N : Refusal → Type 0) (C : Type 0) (M : Refusal → Type 0) (same : (n : Refusal) → N n → M n) where
  abbrev Follows : Found → Found → Type 0
  Follows f g = Gives N C f → Told M g

  adds-told : (v : Variable) (g : Found) → Told M g → Told M (add_variable v g)
  unfolding add_variable
  adds-told v (fault n) t = t
  adds-told v (variables vs) t = t

  adds : (v : Variable) (f g : Found) → Follows f g → Follows (add_variable v f) (add_variable v g)
  unfolding add_variable
  adds v (fault n) g h x = adds-told v g (h x)
  adds v (variables vs) g h x = adds-told v g (h x)

  in_whole : (t : Text) (f g : List ℕ → Found) → ((bs : List ℕ) → Follows (f bs) (g bs))
      → Follows (whole t f) (whole t g)
  unfolding whole
  in_whole broken f g h = same BadEscape
  in_whole (text bs) f g h = h bs

  in-named : (f g : List ℕ → Found) → ((b : ℕ) (bs : List ℕ) → Follows (f (b ∷ bs)) (g (b ∷ bs)))
      → (bs : List ℕ) → Follows (named f bs) (named g bs)
  unfolding named
  in-named f g h [] = same NoVariable
  in-named f g h (b ∷ bs) = h b bs

  in-limited : (k : ℕ) (f g : Found) → Follows f g → Follows (limited k f) (limited k g)
  unfolding limited
  in-limited k f g h = choice₂ Follows (ltb k variable_limit) (λ _. h) (λ _. same TooManyVariables)

  opened : (k : ℕ) (t : Text) (f g : List ℕ → Found) → ((b : ℕ) (bs : List ℕ) → Follows (f (b ∷ bs)) (g (b ∷ bs)))
      → Follows (limited k (whole t (named f))) (limited k (whole t (named g)))
  opened k t f g h = in-limited k _ _ (in_whole t _ _ (in-named f g h))

  -- a name with nothing after it, and whatever is there instead
  alone : (t : Text) (wrong : Refusal) (k kind : ℕ) (y : Row)
      → (k < variable_limit
      → Follows (whole t (named (λ name. variables (variable kind name undefined ∷ [])))) (from_name wrong k kind y))
      → Follows (from_name wrong k kind (row t [])) (from_name wrong k kind y)
  unfolding names add_variable
  alone t wrong k kind y h =
      ⊎_elim (λ room. rw (limited-room k _ room) (h room))
      (λ full. rw (full-name wrong k kind (row t []) full, full-name wrong k kind y full) (same TooManyVariables))
      (below-or-above k variable_limit)

  -- The last text, a name that is as Q says or a value, goes on with a row x, or with a row y instead.
  module _ (Q : Text → Type 0) (x y : Row)
      (name : (bs : List ℕ) → Q (text bs) → (wrong : Refusal) (k kind : ℕ)
      → Follows (from_name wrong k kind (prefixed bs x)) (from_name wrong k kind (prefixed bs y)))
      (value : (bs : List ℕ) (k : ℕ) (v : List ℕ → Variable)
      → Follows (from_value k v (prefixed bs x)) (from_value k v (prefixed bs y))) where
    mutual
      unfolding glued starts_name starts_value last_name names whole

      in-name : (fs : List Field) (t : Text) → Q (last_name fs t) → (wrong : Refusal) (k kind : ℕ)
          → Follows (from_name wrong k kind (glued fs t x)) (from_name wrong k kind (glued fs t y))
      in-name [] (text bs) q wrong k kind = name bs q wrong k kind
      in-name [] broken q wrong k kind = in-limited k _ _ (same BadEscape)
      in-name (name_field kind₂ u ∷ fs) t q wrong k kind = opened k t _ _ λ b bs.
          adds (variable kind (b ∷ bs) undefined) _ _ (in-name fs u q NoVariable (suc k) kind₂)
      in-name (value_field u ∷ fs) t q wrong k kind = opened k t _ _ λ b bs.
          in-value fs u q (suc k) (λ value. variable kind (b ∷ bs) (defined value))

      in-value : (fs : List Field) (t : Text) → Q (last_name fs broken) → (k : ℕ) (v : List ℕ → Variable)
          → Follows (from_value k v (glued fs t x)) (from_value k v (glued fs t y))
      in-value [] (text bs) q k v = value bs k v
      in-value [] broken q k v = same BadEscape
      in-value (name_field kind u ∷ fs) t q k v = in_whole t _ _ λ bs.
          adds (v bs) _ _ (in-name fs u q ValueInValue k kind)
      in-value (value_field u ∷ fs) t q k v = in_whole t _ _ λ bs. adds (v bs) _ _ (same ValueInValue)

    unled : (t : Text) (f g : Found) → Follows f g → Follows (expect_no_text t f) (expect_no_text t g)
    unfolding expect_no_text
    unled broken f g h = same NoVariable
    unled (text []) f g h = h
    unled (text (b ∷ bs)) f g h = same NoVariable

    in_row : (fs : List Field) (t : Text) → Q (last_name fs t)
        → (row t fs ≡ end → Follows (variables_of x) (variables_of y))
        → Follows (variables_of (glued fs t x)) (variables_of (glued fs t y))
    unfolding variables_of glued prefixed stands starts_name starts_value last_name names expect_no_text
    in_row [] broken q none = same NoVariable
    in_row [] (text []) q none = none refl
    in_row [] (text (b ∷ bs)) q none = rw (led b (prefixed bs x).front, led b (prefixed bs y).front) (same NoVariable)
    in_row (name_field kind u ∷ fs) t q none = unled t _ _ (in-name fs u q NoVariable 0 kind)
    in_row (value_field u ∷ fs) t q none = unled t _ _ (same NoVariable)

  -- where no ESC waits
  past-shut : (r y : Row) → (r ≡ end → ⊥) → (end_name r ≡ text [] → N NoVariable → ⊥) → (C → Brings M y)
      → Follows (variables_of (glue r end)) (variables_of (glue r y))
  unfolding names whole named add_variable
  past-shut r y some bare brings =
      in_row (λ t. t ≡ text [] → N NoVariable → ⊥) end y
      (λ bs q wrong k kind.
      rw (prefixed-end bs) (alone (text bs) wrong k kind (prefixed bs y) (name bs q wrong k kind)))
      (λ bs k v. rw (prefixed-end bs) (λ c. (brings c).value bs k v)) r.fields r.front bare (λ e. absurd (some e))
    where
      name : (bs : List ℕ) → (text bs ≡ text [] → N NoVariable → ⊥) → (wrong : Refusal) (k kind : ℕ) → k < variable_limit
          → Follows (named (λ name. variables (variable kind name undefined ∷ [])) bs) (from_name wrong k kind (prefixed bs y))
      name [] q wrong k kind room n = absurd (q refl n)
      name (b ∷ bs) q wrong k kind room c = (brings c).name b bs wrong k kind room

  -- where an ESC waits
  past-waiting : (r : Row) (more : List ℕ) → (N BadEscape → ⊥)
      → Follows (variables_of (glue r (row broken []))) (variables_of (glue r (row_of (ESC ∷ more))))
  unfolding variables_of expect_no_text names whole
  past-waiting r more esc =
      let y = row_of (ESC ∷ more) in
      in_row (λ _. Unit {0}) (row broken []) y
      (λ bs _ wrong k kind.
      rw (prefixed-broken bs) (alone broken wrong k kind (prefixed bs y) (λ _ n. absurd (esc n))))
      (λ bs k v. rw (prefixed-broken bs) (λ n. absurd (esc n))) r.fields r.front tt
      (λ _. rw (esc-leads more (names NoVariable 0 y.fields)) (same NoVariable))

  -- Bytes that end in b go on: their fault stays, unless it is one of their end; where they have none, more brings one.
  pub past : (p : List ℕ) (b : ℕ) (more : List ℕ) → (b ≡ ESC → N BadEscape → ⊥)
      → ((b ≡ VAR) ⊎ (b ≡ USERVAR) → N NoVariable → ⊥) → (C → Brings M (row_of more))
      → Follows (variables_of (row_of (p ++ b ∷ []))) (variables_of (row_of ((p ++ b ∷ []) ++ more)))
  unfolding row_of
  past p b more esc bare brings =
      let d = parted p b in
      rw (parted-now p b d, d.goes more) (go d.kept d.waiting d.ended)
    where
      go : (r : Row) (w : List ℕ) → Ended b r w
          → Follows (variables_of (glue r (row_of w))) (variables_of (glue r (row_of (w ++ more))))
      go r _ (shut some h) = past-shut r (row_of more) some (λ e. bare (h e)) brings
      go r _ (waits e) = past-waiting r more (esc e)
