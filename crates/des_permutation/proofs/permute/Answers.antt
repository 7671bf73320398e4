-- `des_permutation::permute` meets its contract: the bits still to be taken, after those that were, give the whole.
-- Assumes nothing.
use mathlib.Core.Path.{◌≡◌, sym, ◌∙◌}
use mathlib.Core.List.{List}
use Prim.Native.Nat.{ℕ, ◌+◌, ◌-◌, ◌*◌, ◌/◌, ◌%◌, ◌^◌, ◌≤◌, ◌<◌}
use native.Mathlib.Nat.{lt_of_lt_of_le}
use native.Mathlib.Numerals.{add-one}
use native.Mathlib.Omega.{arith}
use lib.Bits.{bit_and, bit_or, and_mask, or_shifted}
use lib.ListN.{length, drop, get_or, drop_of_length-le}
use lib.Pow.{pow-add, pow_mono}
use lib.Seq.{drop-cons}
use borrow.Author.Rules.{rules}
use Rattle.des.specs.Blocks.{bit, continued, permuted}
use Rattle.des_permutation.proofs.Places.{within-at}
use Rattle.des_permutation.proofs.permute.Invariants.{rest}
use Rattle.des_permutation.proofs.permute.Goals.{After-from-p}
use Rattle.des_permutation.proofs.permute.Goals as goal

-- one bit more after a number of i bits
after : (a n i : ℕ) → a < 2 ^ i → i < 64 → bit_or (a * 2 % 2 ^ 64) (bit_and n 1) ≡ a * 2 + n % 2
after a n i h k =
    let small : a < 2 ^ 63 = lt_of_lt_of_le h (pow_mono {i = i} {j = 63} (omega arith)) in
    let e : a * 2 % 2 ^ 64 ≡ a * 2 = omega arith in
    rw (e, and_mask n 1) (or_shifted a 1 (n % 2) (omega arith))

room : (a b i : ℕ) → a < 2 ^ i → b < 2 → a * 2 + b < 2 ^ (i + 1)
room a b i h k = rw (pow-add 2 i 1) (omega arith)

one_more : (w x a : ℕ) (l : List ℕ) (i : ℕ) → i < length l
    → rest w x a (drop i l) ≡ rest w x (a * 2 + bit w x (get_or l i 0)) (drop (i + 1) l)
unfolding continued
one_more w x a l i h = rw (add-one, drop-cons l i 0)

-- the place that a turn reads
placed : (c : After-from-p) → (1 ≤ c.from-p.result) × (c.from-p.result ≤ c.args.width)
placed c =
    rw c.from-p.ensures (within-at c.args.width c.args.places.now c.requires.2 c.loop-p.p-index c.loop-p-test.true)

pub loop-p-init : goal.loop-p-init
unfolding permuted
loop-p-init c = search rules

pub overflow_sub-out : goal.overflow_sub-out
overflow_sub-out c = (placed c).1

pub overflow_shr-out : goal.overflow_shr-out
overflow_shr-out c = omega (arith, placed c)

pub loop-p-preserved : goal.loop-p-preserved
loop-p-preserved c =
    let a = c.args in
    let l = c.loop-p in
    let p = get_or a.places.now l.p-index 0 in
    let b = bit a.width a.x p in
    let e : bit_or (l.out * 2 % 2 ^ 64) (bit_and (a.x / 2 ^ (a.width - c.from-p.result)) 1) ≡ l.out * 2 + b =
    rw c.from-p.ensures (after l.out (a.x / 2 ^ (a.width - p)) l.p-index l.invariant.0 (omega arith)) in (
      rw e (room l.out b l.p-index l.invariant.0 (omega arith)),
      rw e (sym (one_more a.width a.x l.out a.places.now l.p-index c.loop-p-test.true) ∙ l.invariant.1),
    )

pub returns : goal.returns
unfolding continued
returns c =
    let l = c.loop-p in
    rw (drop_of_length-le c.args.places.now {i = l.p-index} c.loop-p-test.false) at l.invariant.1
