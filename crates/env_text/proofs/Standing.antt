-- Laws of a text in a payload: it is the text at the front of the row of the bytes, whole or broken, and it
-- ends within the payload. By induction on the bytes. Assumes nothing.
use mathlib.Core.Path.{◌≡◌, refl, sym, ap, ◌∙◌}
use mathlib.Core.Bool.{Bool, true, false}
use mathlib.Core.List.{List, [], ◌∷◌}
use Prim.Native.Nat.{ℕ, zero, suc, ◌+◌, ◌-◌, ◌≤◌}
use native.Mathlib.Omega.{arith}
use borrow.Author.Tests.{leb-true, leb-false}
use lib.Dec.{leb}
use lib.ListN.{length, drop, length-drop}
use lib.Seq.{drop-drop}
use Rattle.env_text.specs.Text.{with_byte, text_of, ends_text, text_at}
use Rattle.env.specs.Fields.{Text, text, broken, Row, row, row_of, joins, stands, starts_name, starts_value}
use Rattle.env.proofs.Rows.{row-escape, row-bad-escape}

-- where there is nothing, or a mark, there is no text
pub row-marked : (l : List ℕ) → ends_text l ≡ true → (row_of l).front ≡ text []
unfolding ends_text row_of starts_name starts_value
row-marked [] m = refl
row-marked (zero ∷ bs) m = refl
row-marked (suc zero ∷ bs) m = refl
row-marked (suc (suc zero) ∷ []) m = cc
row-marked (suc (suc zero) ∷ b ∷ bs) m = cc
row-marked (suc (suc (suc zero)) ∷ bs) m = refl
row-marked (suc (suc (suc (suc b))) ∷ bs) m = cc

abbrev front : Row → Text
front r = r.front

-- the text at the front, scanned and in the row: whole, or broken
pub data Scanned (l : List ℕ) : Type 0 where
  whole-text : ends_text (text_of l).after ≡ true → row_of l ≡ row (text (text_of l).bytes) (row_of (text_of l).after).fields → Scanned l
  bad-text : ends_text (text_of l).after ≡ false → (row_of l).front ≡ broken → Scanned l

-- a byte more
further : (b : ℕ) (l bs : List ℕ) → text_of l ≡ with_byte b (text_of bs) → row_of l ≡ stands b (row_of bs) → Scanned bs → Scanned l
unfolding with_byte stands joins
further b l bs e f (whole-text m r) = whole-text (rw e m) (rw (e, f) (ap (stands b) r))
further b l bs e f (bad-text m r) = bad-text (rw e m) (rw f (ap (joins b) r))

pub scanned : (l : List ℕ) → Scanned l
unfolding text_of ends_text row_of starts_name starts_value
scanned [] = whole-text refl refl
scanned (zero ∷ bs) = whole-text refl refl
scanned (suc zero ∷ bs) = whole-text refl refl
scanned (suc (suc zero) ∷ []) = bad-text refl refl
scanned (suc (suc zero) ∷ b ∷ bs) = escape (leb b 3) refl (scanned bs)
  where
    escape : (t : Bool) → leb b 3 ≡ t → Scanned bs → Scanned (suc (suc zero) ∷ b ∷ bs)
    escape true e is = further b (suc (suc zero) ∷ b ∷ bs) bs (rw e) (row-escape b bs (leb-true b 3 e)) is
    escape false e is = bad-text (rw e) (ap front (row-bad-escape b bs (leb-false b 3 e)))
scanned (suc (suc (suc zero)) ∷ bs) = whole-text refl refl
scanned (suc (suc (suc (suc b))) ∷ bs) = further (suc (suc (suc (suc b)))) (suc (suc (suc (suc b))) ∷ bs) bs refl refl (scanned bs)

-- how many bytes a text takes, its ESCs among them
record Taking (l : List ℕ) : Type 0 where
  pub width : ℕ
  pub rest : drop width l ≡ (text_of l).after
  pub enough : length (text_of l).bytes ≤ width
  pub within : width ≤ length l

-- a text without bytes
none : (l : List ℕ) → l ≡ (text_of l).after → length (text_of l).bytes ≤ 0 → Taking l
none l e h = record { width = 0; rest = e; enough = h; within = omega arith }

taking : (l : List ℕ) → Taking l
unfolding text_of with_byte
taking [] = none [] refl (omega arith)
taking (zero ∷ bs) = none (zero ∷ bs) refl (omega arith)
taking (suc zero ∷ bs) = none (suc zero ∷ bs) refl (omega arith)
taking (suc (suc zero) ∷ []) = none (suc (suc zero) ∷ []) refl (omega arith)
taking (suc (suc zero) ∷ b ∷ bs) = escape (leb b 3) refl (taking bs)
  where
    escape : (t : Bool) → leb b 3 ≡ t → Taking bs → Taking (suc (suc zero) ∷ b ∷ bs)
    escape true e is = record { width = suc (suc is.width); rest = rw e is.rest; enough = rw e (omega (arith, is.enough)); within = omega (arith, is.within) }
    escape false e is = none (suc (suc zero) ∷ b ∷ bs) (rw e) (rw e (omega arith))
taking (suc (suc (suc zero)) ∷ bs) = none (suc (suc (suc zero)) ∷ bs) refl (omega arith)
taking (suc (suc (suc (suc b))) ∷ bs) = further-on (taking bs)
  where
    further-on : Taking bs → Taking (suc (suc (suc (suc b))) ∷ bs)
    further-on is = record { width = suc is.width; rest = is.rest; enough = omega (arith, is.enough); within = omega (arith, is.within) }

-- where a text ends that begins within the bytes
pub record Placed (s : List ℕ) (from : ℕ) : Type 0 where
  pub rest : drop (text_at s from).end s ≡ (text_of (drop from s)).after
  pub forward : from + (text_at s from).length ≤ (text_at s from).end
  pub within : (text_at s from).end ≤ length s

pub placed : (s : List ℕ) (from : ℕ) → from ≤ length s → Placed s from
unfolding text_at
placed s from h =
    let is = taking (drop from s) in
    let all = length-drop from s in
    let left : length (text_of (drop from s)).after ≡ length s - from - is.width = ap length (sym is.rest) ∙ length-drop is.width (drop from s) ∙ ap (λ n. n - is.width) all in
    let end : length s - length (text_of (drop from s)).after ≡ from + is.width = omega (arith, left, all, is.within) in
    record {
      rest = rw (end, ← drop-drop) is.rest;
      forward = omega (arith, end, is.enough);
      within = omega arith;
    }
