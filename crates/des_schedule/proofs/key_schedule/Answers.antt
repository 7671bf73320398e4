-- `des_schedule::key_schedule` meets its contract: the round keys made so far, followed by those that C and D still
-- give, are the whole. Assumes nothing.
use mathlib.Core.Path.{◌≡◌, refl, sym, ap, ◌∙◌}
use mathlib.Core.List.{List, [], ◌∷◌, ◌++◌, append-nil, append_assoc}
use Prim.Native.Nat.{ℕ, ◌+◌, ◌*◌, ◌/◌, ◌%◌, ◌^◌, ◌≤◌, ◌<◌}
use native.Mathlib.Numerals.{add-one}
use native.Mathlib.Omega.{arith}
use lib.Bits.{and_mask, mask_lt}
use lib.ListN.{length, take, drop, get_or, set, length-set}
use lib.Seq.{drop-cons, take-suc-set, take_all}
use Rattle.des.specs.Blocks.{permuted, groups}
use Rattle.des.specs.Schedule.{rotated, keys_from, round_keys}
use Rattle.des.specs.Tables.{PC-1, PC-2, shifts}
use Rattle.des.proofs.Sizes.{permuted-lt}
use Rattle.des_schedule.proofs.key_schedule.Goals as goal

-- what an iteration gives
one_more : (c d i : ℕ) → i < 16
    → keys_from c d (drop i shifts)
    ≡ groups (permuted 56 PC-2 (rotated (get_or shifts i 0) c * 2 ^ 28 + rotated (get_or shifts i 0) d))
    ∷ keys_from (rotated (get_or shifts i 0) c) (rotated (get_or shifts i 0) d) (drop (i + 1) shifts)
unfolding keys_from
one_more c d i h = rw (add-one, drop-cons shifts i 0 h)

-- what is left before the first
first : (key : ℕ) → keys_from (permuted 64 PC-1 key / 2 ^ 28) (permuted 64 PC-1 key % 2 ^ 28) shifts ≡ round_keys key
unfolding round_keys
first key = refl

stored : (keys : List (List ℕ)) (i : ℕ) (k : List ℕ) (rest : List (List ℕ)) → i < length keys
    → take (i + 1) (set keys i k) ++ rest ≡ take i keys ++ k ∷ rest
stored keys i k rest h = rw (add-one, take-suc-set keys i k h) (append_assoc (take i keys) (k ∷ []) rest)

pub loop-i-init : goal.loop-i-init
loop-i-init c =
    let start = c.permuted_choice_1-start.result in
    let e : start ≡ permuted 64 PC-1 c.args.key = c.permuted_choice_1-start.ensures in
    let h : start < 2 ^ 56 = rw e (permuted-lt 64 PC-1 c.args.key) in (
      omega arith,
      mask_lt start 28,
      refl,
      ap (λ n. keys_from (start / 2 ^ 28) n shifts) (and_mask start 28) ∙ rw e (first c.args.key),
    )

pub loop-i-preserved : goal.loop-i-preserved
loop-i-preserved c =
    let l = c.loop-i in
    let n : c.shift_at-n.result ≡ get_or shifts l.i 0 = c.shift_at-n.ensures.0 in
    let f : c.rotate-c.result ≡ rotated (get_or shifts l.i 0) l.c = c.rotate-c.ensures.0 ∙ rw n in
    let g : c.rotate-d.result ≡ rotated (get_or shifts l.i 0) l.d = c.rotate-d.ensures.0 ∙ rw n in (
      c.rotate-c.ensures.1,
      c.rotate-d.ensures.1,
      length-set l.keys l.i c.key_of.result ∙ l.invariant.2,
      stored l.keys l.i c.key_of.result _ (omega arith)
          ∙ ap (λ ks. take l.i l.keys ++ ks) (rw (c.key_of.ensures, f, g) (sym (one_more l.c l.d l.i (omega arith))))
          ∙ l.invariant.3,
    )

pub returns : goal.returns
unfolding keys_from
returns c =
    let l = c.loop-i in
    let e : l.i ≡ 16 = omega arith in
    let h : length l.keys ≤ 16 = omega arith in
    sym (append-nil l.keys) ∙ ap (λ ks. ks ++ []) (sym (take_all 16 l.keys h)) ∙ rw e at l.invariant.3
