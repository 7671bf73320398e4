-- The laws of raised and padded texts, and of the length of a name. Assumes nothing.
use mathlib.Core.Path.{◌≡◌, refl}
use mathlib.Core.Bool.{true, ◌&&◌, and-eq-true_iff}
use mathlib.Core.List.{List, [], ◌∷◌, ◌++◌}
use Prim.Native.Nat.{ℕ, zero, suc, ◌+◌, ◌-◌, ◌≤◌, ◌<◌}
use native.Mathlib.Omega.{arith}
use lib.Dec.{leb}
use borrow.Author.Tests.{leb-true}
use lib.ListN.{length, get_or, drop, replicate, length-append, length-replicate, get_or-map}
use Rattle.octets.specs.Lent.{overwrite}
use Rattle.octets.proofs.Overwrite.{overwrite-front}
use Rattle.names.specs.Padding.{filled}
use Rattle.names.specs.Name.{raised_byte, raised, is_name}
use Rattle.names.specs.Ebcdic.{ebcdic, ebcdic_of}

pub raised_at : (x : List ℕ) (i : ℕ) → get_or (raised x) i 0 ≡ raised_byte (get_or x i 0)
unfolding raised_byte
raised_at x i = get_or-map raised_byte x i 0

pub ebcdic-at : (x : List ℕ) (i d : ℕ) → i < length x → get_or (ebcdic_of x) i d ≡ ebcdic (raised_byte (get_or x i 0))
ebcdic-at [] i d h = absurd (omega arith)
ebcdic-at (b ∷ bs) zero d h = refl
ebcdic-at (b ∷ bs) (suc i) d h = ebcdic-at bs i d (omega arith)

-- a name is within its limit
pub name-length : (limit : ℕ) (text : List ℕ) → is_name limit text ≡ true → length text ≤ limit
unfolding is_name
name-length limit text e =
    let n = length text in
    leb-true n limit ((and-eq-true_iff (leb 1 n) (leb n limit)).0 ((and-eq-true_iff (leb 1 n && leb n limit) _).0 e).0).1

pub length-filled : (pad width : ℕ) (l : List ℕ) → length (filled pad width l) ≡ length l + (width - length l)
unfolding filled
length-filled pad width l = simp (length-append, length-replicate) (omega arith)

get_d-replicated : (n i a : ℕ) → get_or (replicate n a) i a ≡ a
get_d-replicated zero i a = refl
get_d-replicated (suc n) zero a = refl
get_d-replicated (suc n) (suc i) a = get_d-replicated n i a

appended : (l : List ℕ) (n i a : ℕ) → get_or (l ++ replicate n a) i a ≡ get_or l i a
appended [] n i a = get_d-replicated n i a
appended (b ∷ bs) n zero a = refl
appended (b ∷ bs) n (suc i) a = appended bs n i a

-- after the list there are pads
pub filled_at : (pad width : ℕ) (l : List ℕ) (i : ℕ) → get_or (filled pad width l) i pad ≡ get_or l i pad
unfolding filled
filled_at pad width l i = appended l (width - length l) i pad

drop-replicated : (i n a : ℕ) → drop i (replicate n a) ≡ replicate (n - i) a
drop-replicated zero n a = let e : n - 0 ≡ n = omega arith in rw e
drop-replicated (suc i) zero a = let e : 0 - suc i ≡ 0 = omega arith in rw e
drop-replicated (suc i) (suc n) a = let e : suc n - suc i ≡ n - i = omega arith in rw e (drop-replicated i n a)

-- a list written over the front of as many pads as the width
pub over-pads : (pad width : ℕ) (l : List ℕ) → overwrite (replicate width pad) 0 l ≡ filled pad width l
unfolding filled
over-pads pad width l = rw (overwrite-front, drop-replicated)
