-- The laws of `marked`: byte by byte, from a place on, its length, and what a text that is put answers and leaves.
-- Assumes nothing.
use Rattle.std.specs.Prelude.{if◌then◌else◌}
use mathlib.Core.Path.{◌≡◌, refl, ap, ◌∙◌}
use mathlib.Core.Bool.{Bool, true, false, ◌&&◌}
use mathlib.Core.List.{List, [], ◌∷◌, ◌++◌}
use Prim.Native.Nat.{ℕ, ◌+◌, ◌*◌, ◌≤◌, ◌<◌}
use native.Mathlib.Omega.{arith}
use lib.Dec.{leb}
use lib.ListN.{length, drop, get_or, length-append, drop_of_length-le}
use borrow.Author.Tests.{le-leb, lt-leb}
use Rattle.octets.proofs.Front.{at_front}
use Rattle.octets.specs.Lent.{Outcome, outcome, overwrite}
use Rattle.octets_marked.specs.Marked.{marked, put_marked}

module _ (mark low high : ℕ) where
  pub marked-nil : marked mark low high [] ≡ []
  unfolding marked
  marked-nil = refl

  -- a byte of the range alone, and one that is not
  pub marked-pair : (b : ℕ) → (leb low b && leb b high) ≡ true → marked mark low high (b ∷ []) ≡ mark ∷ b ∷ []
  unfolding marked
  marked-pair b e = rw e

  pub marked-one : (b : ℕ) → (leb low b && leb b high) ≡ false → marked mark low high (b ∷ []) ≡ b ∷ []
  unfolding marked
  marked-one b e = rw e

  pub marked-cons : (b : ℕ) (bs : List ℕ) → marked mark low high (b ∷ bs) ≡ marked mark low high (b ∷ []) ++ marked mark low high bs
  unfolding marked
  marked-cons b bs = go (leb low b && leb b high)
    where
      go : (t : Bool) → (if t then mark ∷ b ∷ marked mark low high bs else b ∷ marked mark low high bs)
          ≡ (if t then mark ∷ b ∷ [] else b ∷ []) ++ marked mark low high bs
      go true = refl
      go false = refl

  -- a text from a place on: the byte there, and the text after it
  pub marked-at : (s : List ℕ) (i : ℕ) → i < length s
      → marked mark low high (drop i s) ≡ marked mark low high (get_or s i 0 ∷ []) ++ marked mark low high (drop (i + 1) s)
  marked-at s i h = ap (marked mark low high) (at_front s i h) ∙ marked-cons (get_or s i 0) (drop (i + 1) s)

  pub length-marked-at : (s : List ℕ) (i : ℕ) → i < length s
      → length (marked mark low high (drop i s)) ≡ length (marked mark low high (get_or s i 0 ∷ [])) + length (marked mark low high (drop (i + 1) s))
  length-marked-at s i h = ap length (marked-at s i h) ∙ length-append (marked mark low high (get_or s i 0 ∷ [])) (marked mark low high (drop (i + 1) s))

  pub marked-end : (s : List ℕ) (i : ℕ) → length s ≤ i → marked mark low high (drop i s) ≡ []
  marked-end s i h = rw (drop_of_length-le s {i = i} h) marked-nil

  -- a text takes as many bytes as it has, at most twice as many
  pub record Sized (s : List ℕ) : Type 0 where
    pub least : length s ≤ length (marked mark low high s)
    pub most : length (marked mark low high s) ≤ 2 * length s

  pub marked-size : (s : List ℕ) → Sized s
  unfolding marked
  marked-size [] = record { least = omega arith; most = omega arith }
  marked-size (b ∷ s) = go (leb low b && leb b high) refl (marked-size s)
    where
      go : (t : Bool) → (leb low b && leb b high) ≡ t → Sized s → Sized (b ∷ s)
      go true e h = record { least = rw e (omega arith); most = rw e (omega arith) }
      go false e h = record { least = rw e (omega arith); most = rw e (omega arith) }

-- a text that is put, by whether it fits
module _ (mark low high : ℕ) (x b : List ℕ) (at : ℕ) where
  pub put-fits : at + length (marked mark low high x) ≤ length b
      → put_marked mark low high x b at ≡ outcome (at + length (marked mark low high x)) (overwrite b at (marked mark low high x))
  unfolding put_marked
  put-fits h = rw (le-leb (at + length (marked mark low high x)) (length b) h)

  pub put_refused : length b < at + length (marked mark low high x) → put_marked mark low high x b at ≡ outcome at b
  unfolding put_marked
  put_refused h = rw (lt-leb (at + length (marked mark low high x)) (length b) h)

  -- what is answered and left, for a text that has another name too
  pub put_whole : (y : List ℕ) → y ≡ marked mark low high x → at + length y ≤ length b
      → {r : ℕ} {l : List ℕ} → outcome r l ≡ put_marked mark low high x b at → (r ≡ at + length y) × (l ≡ overwrite b at y)
  put_whole y same h e =
      let whole = e ∙ put-fits (rw same at h) in
      rw same (ap (λ (o : Outcome ℕ). o.answer) whole, ap (λ (o : Outcome ℕ). o.lent) whole)

  pub put-none : (y : List ℕ) → y ≡ marked mark low high x → length b < at + length y
      → {r : ℕ} {l : List ℕ} → outcome r l ≡ put_marked mark low high x b at → (r ≡ at) × (l ≡ b)
  put-none y same h e =
      let none = e ∙ put_refused (rw same at h) in
      (ap (λ (o : Outcome ℕ). o.answer) none, ap (λ (o : Outcome ℕ). o.lent) none)
