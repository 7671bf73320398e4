-- `placed` in its two cases, what a writer's answer says, and a loop that puts one piece after the other. Assumes
-- nothing.
use mathlib.Core.Path.{◌≡◌, sym, ap, ◌∙◌}
use mathlib.Core.Bool.{Bool, true, false, true≢false}
use mathlib.Core.Logic.{◌⊎◌, inl, inr}
use mathlib.Core.List.{List, [], ◌++◌}
use Prim.Native.Nat.{ℕ, ◌+◌, ◌≤◌, ◌<◌}
use native.Mathlib.Omega.{arith}
use borrow.Author.Tests.{le-leb, lt-leb}
use lib.ListN.{length, length-append}
use Rattle.octets.specs.Lent.{outcome, overwrite}
use Rattle.octets.specs.Promise.{put_at}
use Rattle.octets.proofs.Promise.{put-fits, put_refused, put_whole}
use Rattle.octets.proofs.Overwrite.{overwrite-nil, overwrite-append}
use Rattle.octets.proofs.Order.{below-or-above}
use Rattle.show.specs.Promise.{placed}

pub placed-fits : (x l : List ℕ) (at : ℕ) → at + length x ≤ length l → placed x l at ≡ outcome (at + length x) (overwrite l at x)
unfolding placed
placed-fits x l at h = rw (le-leb (at + length x) (length l) h)

pub placed-refused : (x l : List ℕ) (at : ℕ) → length l < at + length x → placed x l at ≡ outcome at l
unfolding placed
placed-refused x l at h = rw (lt-leb (at + length x) (length l) h)

-- a writer that answers yes had room, and what it leaves is the words at their place
pub had-room : (x b : List ℕ) (at : ℕ) {t : Bool} {l : List ℕ} → outcome t l ≡ put_at x b at → t ≡ true → at + length x ≤ length b
had-room x b at {t} {l} e y = by_cases (below-or-above (length b) (at + length x))
  where
    by_cases : (length b < at + length x) ⊎ (at + length x ≤ length b) → at + length x ≤ length b
    by_cases (inl h) = let z : outcome true l ≡ outcome false b = rw y at e ∙ put_refused x b at h in let w : true ≡ false = ap (λ o. o.answer) z in absurd (true≢false w)
    by_cases (inr h) = h

pub placed-put : (x b : List ℕ) (at : ℕ) {t : Bool} {l : List ℕ} → outcome t l ≡ put_at x b at → t ≡ true → outcome (at + length x) l ≡ placed x b at
placed-put x b at e y =
    let room = had-room x b at e y in
    ap (outcome (at + length x)) (put_whole x b at room e) ∙ sym (placed-fits x b at room)

-- a writer that answers no leaves the buffer as it was
pub placed-none : (x b : List ℕ) (at : ℕ) {t : Bool} {l : List ℕ} → outcome t l ≡ put_at x b at → t ≡ false → outcome at l ≡ placed x b at
placed-none x b at {t} {l} e n = by_cases (below-or-above (length b) (at + length x))
  where
    by_cases : (length b < at + length x) ⊎ (at + length x ≤ length b) → outcome at l ≡ placed x b at
    by_cases (inl h) = ap (outcome at) (ap (λ o. o.lent) (e ∙ put_refused x b at h)) ∙ sym (placed-refused x b at h)
    by_cases (inr h) = let z : outcome false l ≡ outcome true (overwrite b at x) = rw n at e ∙ put-fits x b at h in let w : true ≡ false = sym (ap (λ o. o.answer) z) in absurd (true≢false w)

-- a loop that has put everything: what it is to put there is nothing any more
pub placed-all : (x b : List ℕ) (at : ℕ) {l rest : List ℕ} {end : ℕ} → end ≡ at + length x → at + length x ≤ length b → rest ≡ [] → overwrite l end rest ≡ overwrite b at x
    → outcome end l ≡ placed x b at
placed-all x b at {l} {rest} {end} e h none all =
    let done : l ≡ overwrite b at x = sym (overwrite-nil l end) ∙ ap (overwrite l end) (sym none) ∙ all in
    rw (e, done) (sym (placed-fits x b at h))

-- a loop that puts one piece more
pub one_more : (l : List ℕ) (at : ℕ) (x y : List ℕ) {z : List ℕ} → z ≡ x ++ y → at + length z ≤ length l → overwrite (overwrite l at x) (at + length x) y ≡ overwrite l at z
one_more l at x y {z} e h = rw e (overwrite-append l at x y (omega (arith, simp length-append at (ap length e))))
