-- `des_cipher::cipher::encipher_by` meets its contract: the iterations still to come, from where L and R are, give
-- the whole. Assumes nothing.
use mathlib.Core.Path.{◌≡◌, refl, sym, ap, ◌∙◌}
use mathlib.Core.List.{List, []}
use Prim.Native.Nat.{ℕ, ◌+◌, ◌*◌, ◌%◌, ◌^◌, ◌≤◌, ◌<◌}
use native.Mathlib.Numerals.{add-one}
use native.Mathlib.Omega.{arith}
use lib.Bits.{bit_xor, bit_or, and_mask, mask_lt, or_shifted, xor_lt}
use lib.ListN.{length, drop, get_or, drop_of_length-le}
use lib.Seq.{drop-cons}
use Rattle.des.specs.Blocks.{permuted}
use Rattle.des.specs.Cipher.{f, preoutput, output}
use Rattle.des.specs.Tables.{IP, IP⁻¹}
use Rattle.des_cipher.proofs.Mixing.{f_lt}
use Rattle.des.proofs.Sizes.{permuted-lt}
use Rattle.des_cipher.proofs.cipher.encipher_by.Goals as goal

one_more : (L R : ℕ) (Ks : List (List ℕ)) (i : ℕ) → i < length Ks
    → preoutput L R (drop i Ks) ≡ preoutput R (bit_xor L (f R (get_or Ks i []))) (drop (i + 1) Ks)
unfolding preoutput
one_more L R Ks i h = rw (add-one, drop-cons Ks i [] h)

last : (L R : ℕ) → preoutput L R [] ≡ R * 2 ^ 32 + L
unfolding preoutput
last L R = refl

pub loop-key-init : goal.loop-key-init
unfolding output
loop-key-init c =
    let e : c.initial_permutation-start.result ≡ permuted 64 IP c.args.block = c.initial_permutation-start.ensures in
    let h : c.initial_permutation-start.result < 2 ^ 64 = rw e (permuted-lt 64 IP c.args.block) in (
      omega arith,
      mask_lt c.initial_permutation-start.result 32,
      rw (and_mask c.initial_permutation-start.result 32, e),
    )

pub loop-key-preserved : goal.loop-key-preserved
loop-key-preserved c =
    let l = c.loop-key in
    let keys = c.args.keys.now in
    let e : c.mix.result ≡ f l.right (get_or keys l.key-index []) = c.mix.ensures in (
      l.invariant.1,
      rw e (xor_lt 32 l.left (f l.right (get_or keys l.key-index [])) l.invariant.0 (f_lt l.right (get_or keys l.key-index []))),
      rw e (ap (permuted 64 IP⁻¹) (sym (one_more l.left l.right keys l.key-index (omega arith))) ∙ l.invariant.2),
    )

pub returns : goal.returns
returns c =
    let l = c.loop-key in
    let a = c.args in
    let done : length a.keys.now ≤ l.key-index = omega arith in
    let e : l.right * 2 ^ 32 % 2 ^ 64 ≡ l.right * 2 ^ 32 = omega arith in
    let pre : bit_or (l.right * 2 ^ 32 % 2 ^ 64) l.left ≡ preoutput l.left l.right [] =
    rw e (or_shifted l.right 32 l.left l.invariant.0) ∙ sym (last l.left l.right) in
    c.final_permutation.ensures ∙ ap (permuted 64 IP⁻¹) pre ∙ rw (drop_of_length-le a.keys.now {i = l.key-index} done) at l.invariant.2
