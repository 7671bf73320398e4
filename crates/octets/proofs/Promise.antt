-- `put_at` and `write_front` in their two cases: the bytes fit, or they do not. Assumes nothing.
use Rattle.std.specs.Prelude.{if◌then◌else◌}
use mathlib.Core.Path.{◌≡◌, sym, ap, ap₂, ◌∙◌}
use mathlib.Core.Bool.{Bool, true, false}
use mathlib.Core.Logic.{⊎_elim}
use mathlib.Core.List.{List, ◌++◌}
use Prim.Native.Nat.{ℕ, ◌+◌, ◌≤◌, ◌<◌}
use lib.ListN.{length, drop, length-append}
use lib.Dec.{ltb}
use borrow.Author.Tests.{le-leb, lt-leb, lt-ltb, le-ltb, ltb-true, ltb-false}
use Rattle.octets.specs.Lent.{Outcome, outcome, overwrite, at_front}
use Rattle.octets.specs.Promise.{put_at, write_front}
use Rattle.octets.proofs.Choice.{choice}
use Rattle.octets.proofs.Order.{below-or-above}
use Rattle.octets.proofs.Overwrite.{length-overwrite, overwrite-append, overwrite-front, overwrite-whole}
use native.Mathlib.Omega.{arith}

pub put-fits : (x l : List ℕ) (at : ℕ) → at + length x ≤ length l → put_at x l at ≡ outcome true (overwrite l at x)
unfolding put_at
put-fits x l at h = rw (le-leb (at + length x) (length l) h)

pub put_refused : (x l : List ℕ) (at : ℕ) → length l < at + length x → put_at x l at ≡ outcome false l
unfolding put_at
put_refused x l at h = rw (lt-leb (at + length x) (length l) h)

-- what is left where there is room
pub put_whole : (x b : List ℕ) (at : ℕ) {t : Bool} {l : List ℕ} → at + length x ≤ length b → outcome t l ≡ put_at x b at → l ≡ overwrite b at x
put_whole x b at h e = ap (λ (o : Outcome Bool). o.lent) (e ∙ put-fits x b at h)

-- bytes that fill a buffer
pub put-filling : (x l : List ℕ) → length x ≡ length l → put_at x l 0 ≡ outcome true x
put-filling x l h = put-fits x l 0 (omega arith) ∙ ap (outcome true) (overwrite-whole l x h)

-- two puts one after the other, the first to the front
pub both-put : (x y b : List ℕ) {first l : List ℕ} {t : Bool} → length x + length y ≤ length b → first ≡ overwrite b 0 x
    → outcome t l ≡ put_at y first (length x) → outcome (length x + length y) l ≡ at_front (x ++ y) b
both-put x y b {first} h e put =
    let place : length x ≡ 0 + length x = omega arith in
    ap₂ outcome (sym (length-append x y))
    (put_whole y first (length x) (omega (arith, ap length e, length-overwrite b 0 x (omega arith))) put
    ∙ ap (λ m. overwrite m (length x) y) e
    ∙ ap (λ k. overwrite (overwrite b 0 x) k y) place
    ∙ overwrite-append b 0 x y (omega arith))

-- what was put to the front of a buffer lies within it
pub front-within : {r : ℕ} {l : List ℕ} (x b : List ℕ) → outcome r l ≡ at_front x b → r ≤ length l
front-within x b e =
    let n = ap (λ (o : Outcome ℕ). o.answer) e in
    let k = ap length (ap (λ (o : Outcome ℕ). o.lent) e ∙ overwrite-front b x) in
    omega (arith, n, k, length-append x (drop (length x) b))

module _ {A : Type 0} (wrote : ℕ → A) (short : A) (x l : List ℕ) where
  pub front-short : length l < length x → write_front wrote short x l ≡ outcome short l
  unfolding write_front
  front-short h = rw (lt-ltb (length l) (length x) h)

  pub front_fits : length x ≤ length l → write_front wrote short x l ≡ outcome (wrote (length x)) (overwrite l 0 x)
  unfolding write_front
  front_fits h = rw (le-ltb (length l) (length x) h)

  -- by what a put to the front answers and leaves
  pub front-put : {t : Bool} {m : List ℕ} → outcome t m ≡ put_at x l 0 → outcome (if t then wrote (length x) else short) m ≡ write_front wrote short x l
  front-put e =
      let told : Outcome Bool → Outcome A = λ o. outcome (if o.answer then wrote (length x) else short) o.lent in
      ⊎_elim
      (λ less. ap told (e ∙ put_refused x l 0 (omega arith)) ∙ sym (front-short less))
      (λ more. ap told (e ∙ put-fits x l 0 (omega arith)) ∙ sym (front_fits more))
      (below-or-above (length l) (length x))

  -- what holds of both cases
  pub front-either : (P : Outcome A → Type 0)
      → (length l < length x → P (outcome short l)) → (length x ≤ length l → P (outcome (wrote (length x)) (overwrite l 0 x)))
      → P (write_front wrote short x l)
  unfolding write_front
  front-either P none all =
      choice P (ltb (length l) (length x)) (λ e. none (ltb-true (length l) (length x) e)) (λ e. all (ltb-false (length l) (length x) e))
