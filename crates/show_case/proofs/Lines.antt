-- Parts of a text as the code lends them: what comes before a byte, and what is there from a place on. Assumes nothing.
use mathlib.Core.Path.{◌≡◌, refl, ap, sym, ◌∙◌}
use mathlib.Core.List.{List, [], ◌∷◌}
use Prim.Native.Nat.{ℕ, suc, ◌+◌, ◌<◌}
use native.Mathlib.Omega.{arith}
use borrow.Author.Tests.{ltb-false}
use lib.Dec.{eqb, ltb}
use lib.ListN.{length, take, drop, length-drop, drop_of_length-le}
use lib.Seq.{take_all, drop-drop}
use Rattle.octets.proofs.Choice.{choice, choice₂}
use Rattle.octets.specs.Find.{up_to}
use Rattle.octets.specs.Part.{part}
use Rattle.show_case.specs.Case.{line_at, after_line, lines, put_first}

pub part-before : (b : ℕ) (l : List ℕ) → take (length (up_to b l)) l ≡ up_to b l
unfolding up_to
part-before b [] = refl
part-before b (c ∷ l) =
    choice (λ (r : List ℕ). take (length r) (c ∷ l) ≡ r) (eqb c b) (λ e. refl) (λ e. ap (λ (r : List ℕ). c ∷ r) (part-before b l))

pub part-from : (l : List ℕ) (at : ℕ) → part l at (length l) ≡ drop at l
unfolding part
part-from l at = take_all (length l) (drop at l) (rw length-drop (omega arith))

-- the first line of a text that is not at its end, and those after it
pub lines-first : (b : ℕ) (l : List ℕ) → lines (b ∷ l) ≡ up_to 10 (b ∷ l) ∷ lines (drop (length (up_to 10 (b ∷ l)) + 1) (b ∷ l))
unfolding lines up_to put_first
lines-first b [] =
    choice₂ (λ (all : List (List ℕ)) (r : List ℕ). all ≡ r ∷ lines (drop (length r + 1) (b ∷ []))) (eqb b 10) (λ e. refl) (λ e. refl)
lines-first b (c ∷ l) =
    choice₂ (λ (all : List (List ℕ)) (r : List ℕ). all ≡ r ∷ lines (drop (length r + 1) (b ∷ c ∷ l))) (eqb b 10) (λ e. refl)
    (λ e.
    let n : ℕ = length (up_to 10 (c ∷ l)) in
    let one-more : suc (n + 1) ≡ suc n + 1 = omega arith in
    ap (put_first b) (lines-first c l) ∙ ap (λ (k : ℕ). (b ∷ up_to 10 (c ∷ l)) ∷ lines (drop k (b ∷ c ∷ l))) one-more)

-- the same of what is left from a place on
pub lines-at : (text : List ℕ) (at : ℕ) → at < length text
    → lines (drop at text) ≡ line_at text at ∷ lines (drop (after_line text at) text)
unfolding line_at after_line
lines-at text at h =
    let n : ℕ = length (up_to 10 (drop at text)) in
    lines-more (drop at text) (rw length-drop (omega arith))
    ∙ ap (λ (rest : List ℕ). up_to 10 (drop at text) ∷ lines rest)
    (drop-drop (n + 1) at text
    ∙ choice (λ (to : ℕ). drop (at + (n + 1)) text ≡ drop to text) (ltb (at + n) (length text))
    (λ e. ap (λ k. drop k text) (omega arith))
    (λ e. drop_of_length-le text {i = at + (n + 1)} (omega (arith, ltb-false)) ∙ sym (drop_of_length-le text {i = at + n} (omega (arith, ltb-false)))))
  where
    lines-more : (l : List ℕ) → 0 < length l → lines l ≡ up_to 10 l ∷ lines (drop (length (up_to 10 l) + 1) l)
    lines-more [] h = absurd (omega arith)
    lines-more (b ∷ l) h = lines-first b l
