-- The laws of `row_of` and `escaped`: what each byte in front makes of the row after it, and that a text with its ESCs
-- is there without them. Assumes nothing.
use mathlib.Core.Path.{◌≡◌, refl, ap, ◌∙◌}
use mathlib.Core.List.{List, [], ◌∷◌, ◌++◌}
use mathlib.Core.Logic.{⊎_elim}
use Prim.Native.Nat.{ℕ, zero, suc, ◌≤◌, ◌<◌}
use native.Mathlib.Omega.{arith}
use lib.Dec.{T, eqb, eqb→eq}
use mir.Facts.{or_yes}
use borrow.Author.Tests.{le-leb, lt-leb}
use Rattle.octets.proofs.Order.{below-or-above}
use Rattle.env.specs.Variable.{VAR, VALUE, ESC, USERVAR, is_kind}
use Rattle.env.specs.Fields.{text, broken, Field, Row, row, joins, stands, escapes, starts_name, starts_value, row_of}
use Rattle.env.specs.Write.{escaped}

pub row-nil : row_of [] ≡ row (text []) []
unfolding row_of
row-nil = refl

pub row_plain : (b : ℕ) (bs : List ℕ) → 3 < b → row_of (b ∷ bs) ≡ stands b (row_of bs)
unfolding row_of
row_plain zero bs h = absurd (omega arith)
row_plain (suc zero) bs h = absurd (omega arith)
row_plain (suc (suc zero)) bs h = absurd (omega arith)
row_plain (suc (suc (suc zero))) bs h = absurd (omega arith)
row_plain (suc (suc (suc (suc b)))) bs h = refl

pub row-kind : (b : ℕ) (bs : List ℕ) → T (is_kind b) → row_of (b ∷ bs) ≡ starts_name b (row_of bs)
unfolding row_of is_kind
row-kind b bs t = ⊎_elim (λ e. rw (eqb→eq b VAR e)) (λ e. rw (eqb→eq b USERVAR e)) (or_yes (eqb b VAR) (eqb b USERVAR) t)

pub row-value : (bs : List ℕ) → row_of (VALUE ∷ bs) ≡ starts_value (row_of bs)
unfolding row_of
row-value bs = refl

pub row-escape : (b : ℕ) (bs : List ℕ) → b ≤ 3 → row_of (ESC ∷ b ∷ bs) ≡ stands b (row_of bs)
unfolding row_of escapes
row-escape b bs h = rw le-leb

-- the two bad ESCs: before a byte above 3, and at the end
pub row-bad-escape : (b : ℕ) (bs : List ℕ) → 3 < b → row_of (ESC ∷ b ∷ bs) ≡ row broken []
unfolding row_of escapes
row-bad-escape b bs h = rw lt-leb

-- bytes of the text at the front
unfoldable pub prefixed : List ℕ → Row → Row
prefixed [] r = r
prefixed (b ∷ bs) r = stands b (prefixed bs r)

pub prefixed-text : (bs cs : List ℕ) (fs : List Field) → prefixed bs (row (text cs) fs) ≡ row (text (bs ++ cs)) fs
unfolding prefixed stands joins
prefixed-text [] cs fs = refl
prefixed-text (b ∷ bs) cs fs = rw (prefixed-text bs cs fs)

-- what `escaped` does
pub escaped-nil : escaped [] ≡ []
unfolding escaped
escaped-nil = refl

pub escaped-code : (b : ℕ) (bs : List ℕ) → b ≤ 3 → escaped (b ∷ bs) ≡ ESC ∷ b ∷ escaped bs
unfolding escaped
escaped-code b bs h = rw le-leb

pub escaped-plain : (b : ℕ) (bs : List ℕ) → 3 < b → escaped (b ∷ bs) ≡ b ∷ escaped bs
unfolding escaped
escaped-plain b bs h = rw lt-leb

-- what it wrote is there without its ESCs
pub row-escaped : (bs rest : List ℕ) → row_of (escaped bs ++ rest) ≡ prefixed bs (row_of rest)
unfolding prefixed
row-escaped [] rest = rw escaped-nil
row-escaped (b ∷ bs) rest =
    let after = ap (stands b) (row-escaped bs rest) in
    ⊎_elim (λ plain. rw (escaped-plain b bs plain) (row_plain b (escaped bs ++ rest) plain ∙ after))
    (λ code. rw (escaped-code b bs code) (row-escape b (escaped bs ++ rest) code ∙ after)) (below-or-above 3 b)
