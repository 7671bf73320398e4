-- The laws of texts in UNICODE: their length, and one more character. Assumes nothing.
use mathlib.Core.Path.{◌≡◌, refl, ◌∙◌}
use mathlib.Core.List.{List, [], ◌∷◌}
use Prim.Native.Nat.{ℕ, suc, ◌+◌, ◌-◌, ◌*◌, ◌≤◌, ◌<◌}
use native.Mathlib.Numerals.{add-one}
use native.Mathlib.Omega.{arith}
use lib.ListN.{length, get_or, drop, set, length-drop, length-set}
use lib.Seq.{drop-cons}
use Rattle.octets.specs.Lent.{overwrite}
use Rattle.octets.proofs.Overwrite.{overwrite-cons}
use Rattle.password_sha.specs.Sha.{unicode}

pub length-unicode : (l : List ℕ) → length (unicode l) ≡ 2 * length l
unfolding unicode
length-unicode [] = refl
length-unicode (b ∷ bs) = omega (arith, length-unicode bs)

next : (l : List ℕ) (i : ℕ) → i < length l → unicode (drop i l) ≡ 0 ∷ get_or l i 0 ∷ unicode (drop (i + 1) l)
unfolding unicode
next l i h = rw (add-one, drop-cons l i 0 h)

-- a character stored at a place, and those from the next on after it
pub one_more : (text out : List ℕ) (at i : ℕ) → i < length text → at + 2 * length text ≤ length out
    → overwrite (set (set out (at + 2 * i) 0) (at + 2 * i + 1) (get_or text i 0)) (at + 2 * (i + 1)) (unicode (drop (i + 1) text))
    ≡ overwrite out (at + 2 * i) (unicode (drop i text))
one_more text out at i h g =
    let p = at + 2 * i in
    let b = get_or text i 0 in
    let rest = unicode (drop (i + 1) text) in
    let e : at + 2 * (i + 1) ≡ p + 1 + 1 = omega arith in
    let n : length rest ≡ 2 * (length text - (i + 1)) = length-unicode (drop (i + 1) text) ∙ rw length-drop in
    let two : p + suc (length (b ∷ rest)) ≤ length out = omega arith in
    let one : p + 1 + suc (length rest) ≤ length (set out p 0) = rw length-set (omega arith) in
    rw (e, overwrite-cons (set out p 0) (p + 1) b rest one, overwrite-cons out p 0 (b ∷ rest) two, next text i h)
