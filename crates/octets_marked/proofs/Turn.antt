-- The laws of a turn: a copy and bytes without a mark grow by one byte, and a piece that is put leaves the rest.
-- Assumes nothing.
use mathlib.Core.Path.{◌≡◌, sym, ap, ap₂, ◌∙◌}
use mathlib.Core.Bool.{false, ◌&&◌}
use mathlib.Core.List.{List, [], ◌∷◌, ◌++◌, append_assoc}
use Prim.Native.Nat.{ℕ, ◌+◌, ◌≤◌, ◌<◌}
use native.Mathlib.Nat.{add_assoc}
use native.Mathlib.Numerals.{add-one}
use native.Mathlib.Omega.{arith}
use lib.Dec.{leb}
use lib.ListN.{length, get_or, take, drop, set, length-append, length-drop}
use lib.Seq.{take-suc, get_or-drop, length-take-le}
use Rattle.octets.specs.Lent.{overwrite, IsPut}
use Rattle.octets.proofs.Overwrite.{overwrite-nil, overwrite-one, overwrite-append, length-overwrite}
use Rattle.octets_marked.specs.Marked.{marked}
use Rattle.octets_marked.specs.Internal.Turn.{Plain, Further}
use Rattle.octets_marked.proofs.Marked.{marked-at, marked-one, marked-end}

pub length_part : (s : List ℕ) (at n : ℕ) → at + n ≤ length s → length (take n (drop at s)) ≡ n
length_part s at n h = length-take-le n (drop at s) (rw length-drop (omega arith))

part-more : (s : List ℕ) (at j : ℕ) → at + j < length s → take (j + 1) (drop at s) ≡ take j (drop at s) ++ get_or s (at + j) 0 ∷ []
part-more s at j h = rw (add-one, take-suc (drop at s) j 0 (rw length-drop (omega arith)), get_or-drop)

pub copied_more : (s l : List ℕ) (from to j : ℕ) → from + j < length s → to + j < length l
    → set (overwrite l to (take j (drop from s))) (to + j) (get_or s (from + j) 0) ≡ overwrite l to (take (j + 1) (drop from s))
copied_more s l from to j h g =
    let x = take j (drop from s) in
    let b = get_or s (from + j) 0 in
    let e : length x ≡ j = length_part s from j (omega arith) in
    let kept : length (overwrite l to x) ≡ length l = length-overwrite l to x (omega arith) in
    let one = overwrite-one (overwrite l to x) (to + j) b (omega arith) in
    let all = overwrite-append l to x (b ∷ []) (omega arith) in
    sym one ∙ rw e at all ∙ ap (overwrite l to) (sym (part-more s from j h))

pub plain_more : (mark low high : ℕ) (s : List ℕ) (at j : ℕ) → at + j < length s
    → (leb low (get_or s (at + j) 0) && leb (get_or s (at + j) 0) high) ≡ false → Plain mark low high s at j → Plain mark low high s at (j + 1)
plain_more mark low high s at j h e p =
    let b = get_or s (at + j) 0 in
    p ∙ ap (λ (l : List ℕ). take j (drop at s) ++ l) (marked-at mark low high s (at + j) h)
    ∙ rw (marked-one mark low high b e, part-more s at j h, append_assoc, add_assoc)

-- a piece x of n bytes: how long it is, and that it leaves what is after it
module _ (mark low high : ℕ) (s : List ℕ) (i n : ℕ) (x : List ℕ) (piece : marked mark low high (drop i s) ≡ x ++ marked mark low high (drop (i + n) s)) where
  pub length-piece : length (marked mark low high (drop i s)) ≡ length x + length (marked mark low high (drop (i + n) s))
  length-piece = ap length piece ∙ length-append x (marked mark low high (drop (i + n) s))

  pub piece-put : (b : List ℕ) (k : ℕ) → k + length (marked mark low high (drop i s)) ≤ length b
      → {r : ℕ} {l : List ℕ} → IsPut x b k r l → Further mark low high s i b k (i + n) r l
  piece-put b k room put = record {
    place = omega (arith, length-piece, put.place);
    lent = ap₂ (λ (m : List ℕ) j. overwrite m j rest) put.lent put.place ∙ overwrite-append b k x rest (omega (arith, length-piece))
        ∙ ap (overwrite b k) (sym piece);
  }
    where
      rest : List ℕ
      rest = marked mark low high (drop (i + n) s)

module _ {mark low high : ℕ} {s : List ℕ} where
  -- one piece after another
  pub then-further : {i k j r m t : ℕ} {b l o : List ℕ} → Further mark low high s i b k j r l → Further mark low high s j l r m t o
      → Further mark low high s i b k m t o
  then-further f g = record { place = g.place ∙ f.place; lent = g.lent ∙ f.lent }

  -- up to the end, from the start
  pub all-put : {b l : List ℕ} {at r : ℕ} → Further mark low high s 0 b at (length s) r l → IsPut (marked mark low high s) b at r l
  all-put {b} {l} {at} {r} f =
      let end = marked-end mark low high s (length s) (omega arith) in
      record { place = omega (arith, ap length end, f.place); lent = sym (overwrite-nil l r) ∙ ap (overwrite l r) (sym end) ∙ f.lent }
