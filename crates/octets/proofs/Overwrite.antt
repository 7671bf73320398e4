-- The laws of `overwrite`: a write of nothing and of one byte, two writes one after the other, and what is there
-- after it. Assumes nothing.
use mathlib.Core.Path.{◌≡◌, refl, sym, ap, ◌∙◌}
use mathlib.Core.List.{List, [], ◌∷◌, ◌++◌, append_assoc, append-nil}
use Prim.Native.Nat.{ℕ, suc, ◌+◌, ◌≤◌, ◌<◌}
use native.Mathlib.Nat.{add-zero, zero-add, add_assoc}
use native.Mathlib.Numerals.{add-one}
use native.Mathlib.Omega.{arith}
use lib.ListN.{length, get_or, take, drop, set, length-append, length-drop, take-append-drop}
use lib.Seq.{length-take-le, drop-drop, take_at, drop_at, take-append_seam, set_split, take-set-le, drop-cons, drop-length, sets, sets-eq}
use borrow.Rule.Slice.PartMut.{put_mid}
use Rattle.octets.specs.Lent.{overwrite}

written : (l : List ℕ) (at : ℕ) (x : List ℕ) → overwrite l at x ≡ take at l ++ (x ++ drop (at + length x) l)
unfolding overwrite
written l at x = refl

pub length-overwrite : (l : List ℕ) (at : ℕ) (x : List ℕ) → at + length x ≤ length l → length (overwrite l at x) ≡ length l
unfolding overwrite
length-overwrite l at x h =
    let k : at ≤ length l = omega arith in
    simp (length-append, length-drop, length-take-le at l k) (omega arith)

pub overwrite-nil : (l : List ℕ) (at : ℕ) → overwrite l at [] ≡ l
unfolding overwrite
overwrite-nil l at = rw add-zero (take-append-drop at l)

pub overwrite-one : (l : List ℕ) (at b : ℕ) → at < length l → overwrite l at (b ∷ []) ≡ set l at b
unfolding overwrite
overwrite-one l at b h = rw (add-one, set_split l at b h)

head-length : (l : List ℕ) (at : ℕ) (x : List ℕ) → at ≤ length l → length (take at l ++ x) ≡ at + length x
head-length l at x h = rw (length-append, length-take-le at l h)

-- what is up to the end of a write, and after it
pub take-written : (l : List ℕ) (at : ℕ) (x : List ℕ) → at ≤ length l → take (at + length x) (overwrite l at x) ≡ take at l ++ x
take-written l at x h = rw (written, ← append_assoc) (take_at (take at l ++ x) (drop (at + length x) l) (at + length x) (head-length l at x h))

pub drop-written : (l : List ℕ) (at : ℕ) (x : List ℕ) → at ≤ length l → drop (at + length x) (overwrite l at x) ≡ drop (at + length x) l
drop-written l at x h = rw (written, ← append_assoc) (drop_at (take at l ++ x) (drop (at + length x) l) (at + length x) (head-length l at x h))

-- after a write, so far or further, all is as it was
pub drop_past : (l : List ℕ) (at : ℕ) (x : List ℕ) (n : ℕ) → at ≤ length l → drop (at + length x + n) (overwrite l at x) ≡ drop (at + length x + n) l
drop_past l at x n h = sym (drop-drop n (at + length x) (overwrite l at x)) ∙ ap (drop n) (drop-written l at x h) ∙ drop-drop n (at + length x) l

pub overwrite-append : (l : List ℕ) (at : ℕ) (x y : List ℕ) → at + (length x + length y) ≤ length l → overwrite (overwrite l at x) (at + length x) y ≡ overwrite l at (x ++ y)
overwrite-append l at x y h =
    let k : at ≤ length l = omega arith in
    written (overwrite l at x) (at + length x) y
    ∙ rw (take-written l at x k, drop_past l at x (length y) k, append_assoc, add_assoc)
    (rw (written l at (x ++ y), length-append, append_assoc))

pub overwrite-cons : (l : List ℕ) (at b : ℕ) (y : List ℕ) → at + suc (length y) ≤ length l → overwrite (set l at b) (at + 1) y ≡ overwrite l at (b ∷ y)
overwrite-cons l at b y h =
    let k : at < length l = omega arith in
    let g : at + (1 + length y) ≤ length l = omega arith in
    rw (← overwrite-one l at b k) (overwrite-append l at (b ∷ []) y g)

-- one byte of a list that is written from the front, and then those after it
pub overwrite-next : (l : List ℕ) (at : ℕ) (x : List ℕ) (i d : ℕ) → i < length x → at + length x ≤ length l
    → overwrite (set l (at + i) (get_or x i d)) (at + (i + 1)) (drop (i + 1) x) ≡ overwrite l (at + i) (drop i x)
overwrite-next l at x i d h g =
    let next : drop i x ≡ get_or x i d ∷ drop (i + 1) x = rw add-one (drop-cons x i d h) in
    let room : at + i + suc (length (drop (i + 1) x)) ≤ length l = simp length-drop (omega arith) in
    rw (← add_assoc, overwrite-cons l (at + i) (get_or x i d) (drop (i + 1) x) room, ← next)

-- the last byte first, and then those before it
pub overwrite-snoc : (l : List ℕ) (at : ℕ) (x : List ℕ) (b : ℕ) → at + length x < length l → overwrite (set l (at + length x) b) at x ≡ overwrite l at (x ++ b ∷ [])
overwrite-snoc l at x b h =
    let n = at + length x in
    let k : at ≤ n = omega arith in
    let e : drop n (set l n b) ≡ b ∷ drop (suc n) l = rw (set_split l n b h) (drop_at (take n l) (b ∷ drop (suc n) l) n (length-take-le n l (omega arith))) in
    let m : suc n ≡ at + length (x ++ b ∷ []) = simp length-append (omega arith) in
    rw (written (set l n b) at x, take-set-le at l n b k, e, m, written l at (x ++ b ∷ []), append_assoc)

pub overwrite-front : (l x : List ℕ) → overwrite l 0 x ≡ x ++ drop (length x) l
unfolding overwrite
overwrite-front l x = rw zero-add

pub take-overwrite : (l : List ℕ) (at : ℕ) (x : List ℕ) → at + length x ≤ length l → take (length x) (drop at (overwrite l at x)) ≡ x
take-overwrite l at x h =
    let k : at ≤ length l = omega arith in
    rw (written, drop_at (take at l) (x ++ drop (at + length x) l) at (length-take-le at l k)) (take-append_seam x (drop (at + length x) l))

pub take-overwrite-front : (l x : List ℕ) → take (length x) (overwrite l 0 x) ≡ x
take-overwrite-front l x = rw overwrite-front (take-append_seam x (drop (length x) l))

-- stores in a row are one write
pub stored : (vs l : List ℕ) (at : ℕ) → at + length vs ≤ length l → sets l at vs ≡ overwrite l at vs
unfolding overwrite
stored vs l at h = sets-eq vs l at h ∙ append_assoc (take at l) vs (drop (at + length vs) l)

pub stored-pair : (l : List ℕ) (at a b : ℕ) → at + 2 ≤ length l → set (set l at a) (at + 1) b ≡ overwrite l at (a ∷ b ∷ [])
stored-pair l at a b h = rw add-one (stored (a ∷ b ∷ []) l at h)

-- bytes over the whole of a buffer
pub overwrite-whole : (l x : List ℕ) → length x ≡ length l → overwrite l 0 x ≡ x
overwrite-whole l x h = overwrite-front l x ∙ rw (h, drop-length, append-nil)

-- the part from a place on, as long as the bytes that it becomes
pub part-overwrite : (l : List ℕ) (at k : ℕ) (x : List ℕ) → k ≡ length x → put_mid at k l x ≡ overwrite l at x
unfolding overwrite
part-overwrite l at k x e = rw e (ap (λ r. take at l ++ (x ++ r)) (drop-drop (length x) at l))
