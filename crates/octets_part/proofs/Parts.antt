-- The part of a buffer that a place and a length say, as the code lends it: both ends are kept within the buffer.
-- Assumes nothing.
use mathlib.Core.Path.{◌≡◌, sym, ◌∙◌}
use mathlib.Core.Logic.{⊎_elim}
use mathlib.Core.List.{List}
use Prim.Native.Nat.{ℕ, ◌+◌, ◌-◌, min}
use native.Mathlib.Omega.{arith}
use lib.ListN.{length, take, drop, length-drop, drop_of_length-le}
use lib.Seq.{take_all, take-length, drop-length}
use Rattle.octets.specs.Part.{part}
use Rattle.octets.proofs.Order.{below-or-above}

pub take_min : (n : ℕ) (l : List ℕ) → take (min n (length l)) l ≡ take n l
take_min n l =
    ⊎_elim (λ h. let e : min n (length l) ≡ n = omega arith in rw e)
    (λ h. let e : min n (length l) ≡ length l = omega arith in rw e (take-length l ∙ sym (take_all n l h)))
    (below-or-above n (length l))

-- the same where the limit is given
pub take-clipped : (k : ℕ) (l : List ℕ) → take (min (length l) k) l ≡ take k l
take-clipped k l =
    let e : min (length l) k ≡ min k (length l) = omega arith in
    rw e (take_min k l)

drop_min : (n : ℕ) (l : List ℕ) → drop (min n (length l)) l ≡ drop n l
drop_min n l =
    ⊎_elim (λ h. let e : min n (length l) ≡ n = omega arith in rw e)
    (λ h. let e : min n (length l) ≡ length l = omega arith in rw e (drop-length l ∙ sym (drop_of_length-le l h)))
    (below-or-above n (length l))

pub part-lent : (l : List ℕ) (at n start end : ℕ) → start ≡ min at (length l) → end ≡ min at (length l) + min n (length l - min at (length l))
    → take (end - start) (drop start l) ≡ part l at n
unfolding part
part-lent l at n start end s e =
    let rest : length (drop at l) ≡ length l - at = length-drop at l in
    let k : end - start ≡ min n (length (drop at l)) = omega arith in
    rw (k, s, drop_min at l) (take_min n (drop at l))
