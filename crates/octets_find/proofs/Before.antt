-- What comes before a byte, from a place of a text on: it ends where the byte is, at the first such place, and
-- without its first bytes it is what comes before the byte from further on. Assumes nothing.
use mathlib.Core.Path.{◌≡◌, sym, ◌∙◌}
use mathlib.Core.List.{List, [], ◌∷◌}
use Prim.Native.Nat.{ℕ, zero, suc, ◌+◌, ◌-◌, ◌≤◌, ◌<◌, zero-le, suc-le-suc}
use native.Mathlib.Omega.{arith}
use borrow.Author.Tests.{eqb-true, eq-eqb}
use lib.Dec.{eqb}
use lib.ListN.{length, get_or, drop, drop_of_length-le, length-drop}
use lib.Seq.{get_or-drop, drop-drop}
use Rattle.octets.proofs.Choice.{choice}
use Rattle.octets.specs.Find.{up_to}

after : (b : ℕ) (l : List ℕ) → length (up_to b l) < length l → get_or l (length (up_to b l)) 0 ≡ b
unfolding up_to
after b [] h = absurd (omega arith)
after b (c ∷ l) h =
    choice (λ (r : List ℕ). length r < suc (length l) → get_or (c ∷ l) (length r) 0 ≡ b) (eqb c b) (λ e g. eqb-true c b e) (λ e g. after b l (omega arith)) h

no-later : (b : ℕ) (l : List ℕ) (j : ℕ) → j < length l → get_or l j 0 ≡ b → length (up_to b l) ≤ j
unfolding up_to
no-later b [] j h e = absurd (omega arith)
no-later b (c ∷ l) zero h e = rw (eq-eqb c b e) zero-le
no-later b (c ∷ l) (suc j) h e = choice (λ (r : List ℕ). length r ≤ suc j) (eqb c b) (λ t. zero-le) (λ t. suc-le-suc (no-later b l j (omega arith) e))

rest : (b : ℕ) (l : List ℕ) (k : ℕ) → k ≤ length (up_to b l) → length (up_to b l) ≡ k + length (up_to b (drop k l))
unfolding up_to
rest b l zero h = omega arith
rest b [] (suc k) h = absurd (omega arith)
rest b (c ∷ l) (suc k) h =
    choice (λ (r : List ℕ). suc k ≤ length r → length r ≡ suc k + length (up_to b (drop k l))) (eqb c b) (λ e g. absurd (omega arith))
    (λ e g. omega (arith, rest b l k (omega arith))) h

from-there : (s : List ℕ) (i p : ℕ) → i ≤ p → get_or (drop i s) (p - i) 0 ≡ get_or s p 0
from-there s i p h =
    let e : i + (p - i) ≡ p = omega arith in
    rw e at (get_or-drop i s (p - i) 0)

pub found : (b : ℕ) (s : List ℕ) (i p : ℕ) → i ≤ p → p < length s → get_or s p 0 ≡ b → i + length (up_to b (drop i s)) ≤ p
found b s i p h g e = omega (arith, no-later b (drop i s) (p - i) (rw length-drop (omega arith)) (from-there s i p h ∙ e))

pub not_found : (b : ℕ) (s : List ℕ) (i p : ℕ) → i ≤ p → p < length s → (get_or s p 0 ≡ b → ⊥) → i + length (up_to b (drop i s)) ≡ p → ⊥
not_found b s i p h g n e =
    let d : length (up_to b (drop i s)) ≡ p - i = omega arith in
    n (sym (from-there s i p h) ∙ rw d at (after b (drop i s) (rw (d, length-drop) (omega arith))))

pub passed : (b : ℕ) (s : List ℕ) (i k : ℕ) → k ≤ length (up_to b (drop i s)) → length (up_to b (drop i s)) ≡ k + length (up_to b (drop (i + k) s))
passed b s i k h = rw (drop-drop k i s) at (rest b (drop i s) k h)

pub ended : (b : ℕ) (s : List ℕ) (i : ℕ) → length s ≤ i → length (up_to b (drop i s)) ≡ 0
unfolding up_to
ended b s i h = rw (drop_of_length-le s h)
