-- What more bytes do to a row: all stays but the last text, which goes on (`parted`). An ESC that comes last waits for
-- the byte after it. Assumes nothing.
use mathlib.Core.Path.{◌≡◌, refl, sym, ap, ◌∙◌}
use mathlib.Core.List.{List, [], ◌∷◌, ◌++◌, append-nil}
use mathlib.Core.Logic.{◌⊎◌, inl, inr, ⊎_elim}
use Prim.Native.Nat.{ℕ, zero, suc}
use native.Mathlib.Omega.{arith}
use Rattle.octets.proofs.Order.{below-or-above}
use Rattle.env.specs.Variable.{VAR, ESC, USERVAR}
use Rattle.env.specs.Fields.{Text, text, broken, Field, name_field, value_field, Row, row, joins, stands}
use Rattle.env.specs.Fields.{starts_name, starts_value, row_of}
use Rattle.env.proofs.Rows.{row-escape, row-bad-escape, prefixed}

-- fields and the text before them, before a row: its front goes on with the last text, unless that is broken
unfoldable pub glued : List Field → Text → Row → Row
glued [] (text bs) x = prefixed bs x
glued [] broken x = row broken []
glued (name_field kind u ∷ fs) t x = row t (starts_name kind (glued fs u x)).fields
glued (value_field u ∷ fs) t x = row t (starts_value (glued fs u x)).fields

abbrev pub glue : Row → Row → Row
glue r x = glued r.fields r.front x

-- the last text, where it is a name; a value counts as broken
unfoldable pub last_name : List Field → Text → Text
last_name [] t = t
last_name (name_field kind u ∷ fs) t = last_name fs u
last_name (value_field u ∷ fs) t = last_name fs broken

abbrev pub end_name : Row → Text
end_name r = last_name r.fields r.front

-- the row of no bytes
abbrev pub end : Row
end = row (text []) []

-- what a byte in front of a row may do: it leaves the last text, and the row is not that of no bytes
record Before (f : Row → Row) : Type 0 where
  glues : (r x : Row) → f (glue r x) ≡ glue (f r) x
  ends : (r : Row) → end_name (f r) ≡ text [] → end_name r ≡ text []
  some : (r : Row) → f r ≡ end → ⊥

has-field : {f : Field} {fs : List Field} → f ∷ fs ≡ [] → ⊥
has-field e = let z : ◌≡◌ {A = ℕ} 0 1 = cc in omega arith

broken-full : broken ≡ text [] → ⊥
broken-full e = let z : ◌≡◌ {A = ℕ} 0 1 = cc in omega arith

joins-full : (b : ℕ) (t : Text) → joins b t ≡ text [] → ⊥
unfolding joins
joins-full b (text bs) e = let z : ◌≡◌ {A = ℕ} 0 1 = cc in omega arith
joins-full b broken e = broken-full e

-- a front that is not empty is no empty name
not-front : (fs : List Field) (t u : Text) → (t ≡ text [] → ⊥) → last_name fs t ≡ text [] → last_name fs u ≡ text []
unfolding last_name
not-front [] t u full e = absurd (full e)
not-front (name_field kind v ∷ fs) t u full e = e
not-front (value_field v ∷ fs) t u full e = e

before-name : (kind : ℕ) → Before (starts_name kind)
unfolding glued starts_name last_name
before-name kind = record {
  glues = λ r x. refl;
  ends = λ r e. e;
  some = λ r e. has-field (ap (λ (r : Row). r.fields) e);
}

before-value : Before starts_value
unfolding glued starts_value last_name
before-value = record {
  glues = λ r x. refl;
  ends = λ r. not-front r.fields broken r.front broken-full;
  some = λ r e. has-field (ap (λ (r : Row). r.fields) e);
}

stands-glued : (b : ℕ) (fs : List Field) (t : Text) (x : Row) → stands b (glued fs t x) ≡ glued fs (joins b t) x
unfolding glued stands joins prefixed
stands-glued b [] (text bs) x = refl
stands-glued b [] broken x = refl
stands-glued b (name_field kind u ∷ fs) t x = refl
stands-glued b (value_field u ∷ fs) t x = refl

before-byte : (b : ℕ) → Before (stands b)
unfolding stands
before-byte b = record {
  glues = λ r. stands-glued b r.fields r.front;
  ends = λ r. not-front r.fields (joins b r.front) r.front (joins-full b r.front);
  some = λ r e. joins-full b r.front (ap (λ (r : Row). r.front) e);
}

-- bytes whose last is b: the last name is empty only after a VAR or USERVAR, and only an ESC waits
pub data Ended (b : ℕ) (r : Row) : List ℕ → Type 0 where
  shut : (r ≡ end → ⊥) → (end_name r ≡ text [] → (b ≡ VAR) ⊎ (b ≡ USERVAR)) → Ended b r []
  waits : b ≡ ESC → Ended b r (ESC ∷ [])

ended-before : (f : Row → Row) (b : ℕ) (r : Row) (w : List ℕ) → Before f → Ended b r w → Ended b (f r) w
ended-before f b r w s (shut some h) = shut (s.some r) (λ e. h (s.ends r e))
ended-before f b r w s (waits e) = waits e

-- the row of such bytes without an ESC that waits, and what it is with more bytes
pub record Parted (p : List ℕ) (b : ℕ) : Type 0 where
  pub kept : Row
  pub waiting : List ℕ
  pub ended : Ended b kept waiting
  pub goes : (more : List ℕ) → row_of ((p ++ b ∷ []) ++ more) ≡ glue kept (row_of (waiting ++ more))

parted-before : (f : Row → Row) (p q : List ℕ) (b : ℕ) → Before f
    → ((more : List ℕ) → row_of ((q ++ b ∷ []) ++ more) ≡ f (row_of ((p ++ b ∷ []) ++ more))) → Parted p b → Parted q b
parted-before f p q b s starts d = record {
  kept = f d.kept;
  waiting = d.waiting;
  ended = ended-before f b d.kept d.waiting s d.ended;
  goes = λ more. starts more ∙ ap f (d.goes more) ∙ s.glues d.kept (row_of (d.waiting ++ more));
}

-- a single byte that does not wait
single : (f : Row → Row) (p : List ℕ) (b : ℕ) → Before f → (end_name (f end) ≡ text [] → (b ≡ VAR) ⊎ (b ≡ USERVAR))
    → ((more : List ℕ) → row_of ((p ++ b ∷ []) ++ more) ≡ f (row_of more)) → Parted p b
unfolding glued prefixed
single f p b s h starts = record {
  kept = f end;
  waiting = [];
  ended = shut (s.some end) h;
  goes = λ more. starts more ∙ s.glues end (row_of more);
}

single-byte : (p : List ℕ) (b : ℕ) → ((more : List ℕ) → row_of ((p ++ b ∷ []) ++ more) ≡ stands b (row_of more))
    → Parted p b
unfolding last_name stands
single-byte p b starts = single (stands b) p b (before-byte b) (λ e. absurd (joins-full b (text []) e)) starts

-- a bad ESC
bad : (p : List ℕ) (b : ℕ) → ((more : List ℕ) → row_of ((p ++ b ∷ []) ++ more) ≡ row broken []) → Parted p b
unfolding glued last_name
bad p b starts = record {
  kept = row broken [];
  waiting = [];
  ended = shut (λ e. broken-full (ap (λ (r : Row). r.front) e)) (λ e. absurd (broken-full e));
  goes = starts;
}

pub parted : (p : List ℕ) (b : ℕ) → Parted p b
unfolding row_of starts_name starts_value last_name glued prefixed
parted [] zero = single (starts_name VAR) [] 0 (before-name VAR) (λ _. inl refl) (λ more. refl)
parted [] (suc zero) = single starts_value [] 1 before-value (λ e. absurd (broken-full e)) (λ more. refl)
parted [] (suc (suc zero)) = record { kept = end; waiting = ESC ∷ []; ended = waits refl; goes = λ more. refl }
parted [] (suc (suc (suc zero))) = single (starts_name USERVAR) [] 3 (before-name USERVAR) (λ _. inr refl) (λ more. refl)
parted [] (suc (suc (suc (suc b)))) = single-byte [] (suc (suc (suc (suc b)))) (λ more. refl)
parted (zero ∷ p) b = parted-before (starts_name VAR) p (0 ∷ p) b (before-name VAR) (λ more. refl) (parted p b)
parted (suc zero ∷ p) b = parted-before starts_value p (1 ∷ p) b before-value (λ more. refl) (parted p b)
parted (suc (suc zero) ∷ []) b =
    ⊎_elim (λ above. bad (2 ∷ []) b (λ more. row-bad-escape b more above))
    (λ code. single-byte (2 ∷ []) b (λ more. row-escape b more code)) (below-or-above 3 b)
parted (suc (suc zero) ∷ c ∷ p) b =
    let rest = parted p b in
    let s = before-byte c in
    ⊎_elim (λ above. bad (2 ∷ c ∷ p) b (λ more. row-bad-escape c ((p ++ b ∷ []) ++ more) above))
    (λ code. parted-before (stands c) p (2 ∷ c ∷ p) b s (λ more. row-escape c ((p ++ b ∷ []) ++ more) code) rest)
    (below-or-above 3 c)
parted (suc (suc (suc zero)) ∷ p) b =
    parted-before (starts_name USERVAR) p (3 ∷ p) b (before-name USERVAR) (λ more. refl) (parted p b)
parted (suc (suc (suc (suc c))) ∷ p) b =
    let c₀ = suc (suc (suc (suc c))) in
    parted-before (stands c₀) p (c₀ ∷ p) b (before-byte c₀) (λ more. refl) (parted p b)

pub parted-now : (p : List ℕ) (b : ℕ) (d : Parted p b) → row_of (p ++ b ∷ []) ≡ glue d.kept (row_of d.waiting)
parted-now p b d =
    ap row_of (sym (append-nil (p ++ b ∷ [])))
    ∙ d.goes []
    ∙ ap (λ (w : List ℕ). glue d.kept (row_of w)) (append-nil d.waiting)
