-- The laws that the writer's functions cite: escaping as a mark, and a variable put piece by piece.
-- Assumes nothing.
use mathlib.Core.Path.{◌≡◌, refl, ap, ◌∙◌}
use mathlib.Core.List.{List, [], ◌∷◌, ◌++◌}
use Prim.Native.Nat.{ℕ, ◌+◌, ◌≤◌}
use native.Mathlib.Omega.{arith}
use lib.ListN.{length, set, length-append, length-set}
use borrow.Author.Tests.{eq-eqb, ne_eqb, le-leb}
use Rattle.env.specs.Variable.{VALUE, ESC}
use Rattle.env.specs.Write.{escaped, written_value}
use Rattle.env.specs.Numbers.{DEFINED, value_by}
use Rattle.octets.specs.Lent.{overwrite}
use Rattle.octets.proofs.Overwrite.{overwrite-append, overwrite-cons}
use Rattle.octets_marked.specs.Marked.{marked}

-- escaping is a mark of ESC before each of 0 to 3
pub escaped-marked : (s : List ℕ) → escaped s ≡ marked ESC 0 3 s
unfolding escaped marked
escaped-marked [] = refl
escaped-marked (b ∷ s) = rw (le-leb 0 b (omega arith), escaped-marked s)

-- a kind, a name and what comes after it, one after the other
pub stored-variable : (out : List ℕ) (at k b : ℕ) (n v : List ℕ) → k ≡ at + 1 + length n → k + length v ≤ length out
    → overwrite (overwrite (set out at b) (at + 1) n) k v ≡ overwrite out at (b ∷ (n ++ v))
stored-variable out at k b n v e h =
    let opened = set out at b in
    let same : length opened ≡ length out = simp length-set in
    ap (λ j. overwrite (overwrite opened (at + 1) n) j v) e
    ∙ overwrite-append opened (at + 1) n v (omega arith)
    ∙ overwrite-cons out at b (n ++ v) (simp length-append (omega arith))

-- a value by its mark, written
pub undefined-written : (mark : ℕ) (x : List ℕ) → (mark ≡ DEFINED → ⊥) → written_value (value_by mark x) ≡ []
unfolding value_by written_value
undefined-written mark x other = rw (ne_eqb mark DEFINED other)

pub defined-written : (mark : ℕ) (x : List ℕ) → mark ≡ DEFINED → written_value (value_by mark x) ≡ VALUE ∷ escaped x
unfolding value_by written_value
defined-written mark x e = rw (eq-eqb mark DEFINED e)
