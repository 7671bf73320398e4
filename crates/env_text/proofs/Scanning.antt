-- Laws of a name or a value at the front of bytes: by the bytes that are there, and what the row of the bytes says of
-- it. Assumes nothing.
use mathlib.Core.Path.{◌≡◌, refl, sym, ap, ◌∙◌}
use mathlib.Core.Bool.{Bool, true, false}
use mathlib.Core.List.{List, [], ◌∷◌}
use Prim.Native.Nat.{ℕ, zero, suc, ◌+◌, ◌-◌, ◌≤◌, ◌<◌}
use native.Mathlib.Nat.{sub-zero}
use native.Mathlib.Omega.{arith}
use borrow.Author.Tests.{le-leb, lt-leb}
use lib.Dec.{leb}
use lib.ListN.{length, get_or, drop, length-drop, drop_of_length-le}
use Rattle.env_text.specs.declared.Extent.{Extent}
use Rattle.env_text.specs.Text.{Cut, cut, with_byte, text_of, ends_text, text_at}
use Rattle.env_text.specs.Internal.Scan.{IsWidth, IsExtent}
use Rattle.octets.proofs.Front.{at_front, pair-front}

-- the text by its first byte
text-plain : (b : ℕ) (bs : List ℕ) → 3 < b → text_of (b ∷ bs) ≡ with_byte b (text_of bs)
unfolding text_of
text-plain zero bs h = absurd (omega arith)
text-plain (suc zero) bs h = absurd (omega arith)
text-plain (suc (suc zero)) bs h = absurd (omega arith)
text-plain (suc (suc (suc zero))) bs h = absurd (omega arith)
text-plain (suc (suc (suc (suc b)))) bs h = refl

text-mark : (b : ℕ) (bs : List ℕ) → b ≤ 3 → (b ≡ 2 → ⊥) → text_of (b ∷ bs) ≡ cut [] (b ∷ bs)
unfolding text_of
text-mark zero bs h n = refl
text-mark (suc zero) bs h n = refl
text-mark (suc (suc zero)) bs h n = absurd (n refl)
text-mark (suc (suc (suc zero))) bs h n = refl
text-mark (suc (suc (suc (suc b)))) bs h n = absurd (omega arith)

mark-other : (b : ℕ) (bs : List ℕ) → (b ≡ 2 → ⊥) → ends_text (b ∷ bs) ≡ leb b 3
unfolding ends_text
mark-other zero bs n = refl
mark-other (suc zero) bs n = refl
mark-other (suc (suc zero)) bs n = absurd (n refl)
mark-other (suc (suc (suc zero))) bs n = refl
mark-other (suc (suc (suc (suc b)))) bs n = sym (lt-leb (suc (suc (suc (suc b)))) 3 (omega arith))

text-escape : (b : ℕ) (bs : List ℕ) → b ≤ 3 → text_of (2 ∷ b ∷ bs) ≡ with_byte b (text_of bs)
unfolding text_of
text-escape b bs h = rw (le-leb b 3 h)

text-bad : (b : ℕ) (bs : List ℕ) → 3 < b → text_of (2 ∷ b ∷ bs) ≡ cut [] (2 ∷ b ∷ bs)
unfolding text_of
text-bad b bs h = rw (lt-leb b 3 h)

over : (s : List ℕ) (i : ℕ) → text_of (drop i s) ≡ cut [] (drop i s) → IsWidth s i 0
over s i e = record { within = λ g. absurd (omega arith); over = λ z. e; more = λ g. absurd (omega arith) }

-- by the bytes at a place
module _ (s : List ℕ) (i : ℕ) where
  pub width-end : length s ≤ i → IsWidth s i 0
  unfolding text_of
  width-end h = over s i (rw (drop_of_length-le s {i = i} h))

  pub width-plain : i < length s → 3 < get_or s i 0 → IsWidth s i 1
  width-plain h g =
      let here : i + 1 - 1 ≡ i = omega arith in
      record {
        within = λ k. omega arith;
        over = λ e. absurd (omega arith);
        more = λ k. ap text_of (at_front s i h) ∙ text-plain (get_or s i 0) (drop (i + 1) s) g ∙ ap (λ n. with_byte (get_or s n 0) (text_of (drop (i + 1) s))) (sym here);
      }

  pub width-mark : i < length s → get_or s i 0 ≤ 3 → (get_or s i 0 ≡ 2 → ⊥) → IsWidth s i 0
  width-mark h g n = over s i (rw (at_front s i h) (text-mark (get_or s i 0) (drop (i + 1) s) g n))

  pub width-last : i < length s → length s ≤ i + 1 → get_or s i 0 ≡ 2 → IsWidth s i 0
  unfolding text_of
  width-last h g e = over s i (rw (at_front s i h, drop_of_length-le s {i = i + 1} g, e))

  pub width-bad : i + 1 < length s → get_or s i 0 ≡ 2 → 3 < get_or s (i + 1) 0 → IsWidth s i 0
  width-bad h e g = over s i (rw (pair-front s i h, e) (text-bad (get_or s (i + 1) 0) (drop (i + 1 + 1) s) g))

  pub width-escape : i + 1 < length s → get_or s i 0 ≡ 2 → get_or s (i + 1) 0 ≤ 3 → IsWidth s i 2
  width-escape h e g =
      let next : i + 2 - 1 ≡ i + 1 = omega arith in
      let after : i + 2 ≡ i + 1 + 1 = omega arith in
      record {
        within = λ k. omega arith;
        over = λ z. absurd (omega arith);
        more = λ k. rw (pair-front s i h, e, next, after) (text-escape (get_or s (i + 1) 0) (drop (i + 1 + 1) s) g);
      }

  pub marked-end : length s ≤ i → ends_text (drop i s) ≡ true
  unfolding ends_text
  marked-end h = rw (drop_of_length-le s {i = i} h)

  pub marked-escape : i < length s → get_or s i 0 ≡ 2 → ends_text (drop i s) ≡ false
  unfolding ends_text
  marked-escape h e = rw (at_front s i h, e)

  pub marked_other : i < length s → (get_or s i 0 ≡ 2 → ⊥) → ends_text (drop i s) ≡ leb (get_or s i 0) 3
  marked_other h n = rw (at_front s i h) (mark-other (get_or s i 0) (drop (i + 1) s) n)

-- a byte of the text is at a place
pub record Next (s : List ℕ) (i w : ℕ) : Type 0 where
  pub byte : (text_of (drop i s)).bytes ≡ get_or s (i + w - 1) 0 ∷ (text_of (drop (i + w) s)).bytes
  pub after : (text_of (drop (i + w) s)).after ≡ (text_of (drop i s)).after
  pub counted : length (text_of (drop i s)).bytes ≡ suc (length (text_of (drop (i + w) s)).bytes)
  pub positive : 0 < w
  pub within : i + w ≤ length s

-- the text is over at a place
pub record Ended (s : List ℕ) (i : ℕ) : Type 0 where
  pub none : (text_of (drop i s)).bytes ≡ []
  pub rest : drop i s ≡ (text_of (drop i s)).after

abbrev bytes_of : Cut → List ℕ
bytes_of c = c.bytes

abbrev after_of : Cut → List ℕ
after_of c = c.after

pub next : (s : List ℕ) (i w : ℕ) → IsWidth s i w → 0 < w → Next s i w
unfolding with_byte
next s i w is h =
    let e = is.more h in
    record { byte = ap bytes_of e; after = ap after_of (sym e); counted = ap (λ c. length c.bytes) e; positive = h; within = is.within h }

pub ended : (s : List ℕ) (i w : ℕ) → IsWidth s i w → w ≡ 0 → Ended s i
ended s i w is z = record { none = ap bytes_of (is.over z); rest = ap after_of (sym (is.over z)) }

-- what is there from a place on, by its extent
pub text-found : (s : List ℕ) (from : ℕ) (e : Extent) (w : Bool) → IsExtent s from e → w ≡ ends_text (drop e.end s)
    → record { whole = w; length = e.length; end = e.end } ≡ text_at s from
unfolding text_at
text-found s from e w is m =
    let left = ap length (sym is.rest) ∙ length-drop e.end s in
    let end : e.end ≡ length s - length (text_of (drop from s)).after = omega (arith, left, is.within) in
    rw (m, is.rest, is.count, end)

-- past the end there is no text
pub text-past : (s : List ℕ) (from : ℕ) → length s ≤ from → record { whole = true; length = 0; end = length s } ≡ text_at s from
unfolding text_at text_of ends_text
text-past s from h =
    ap (λ n. record { whole = true; length = 0; end = n }) (sym (sub-zero (length s)))
    ∙ ap (λ l. record { whole = ends_text (text_of l).after; length = length (text_of l).bytes; end = length s - length (text_of l).after })
    (sym (drop_of_length-le s {i = from} h))
