-- `des_cipher::chain::chain` meets its contract: the chain over the blocks still to come, from the last one, gives the
-- whole. Assumes nothing.
use mathlib.Core.Path.{◌≡◌, sym, ◌∙◌}
use mathlib.Core.List.{List}
use Prim.Native.Nat.{ℕ, ◌+◌, ◌<◌}
use native.Mathlib.Numerals.{add-one}
use lib.Bits.{bit_xor}
use lib.ListN.{length, drop, get_or, drop_of_length-le}
use lib.Seq.{drop-cons}
use Rattle.des.specs.Cipher.{output, chained}
use Rattle.des_cipher.proofs.chain.chain.Goals as goal

one_more : (Ks : List (List ℕ)) (x : ℕ) (l : List ℕ) (i : ℕ) → i < length l
    → chained Ks x (drop i l) ≡ chained Ks (output Ks (bit_xor x (get_or l i 0))) (drop (i + 1) l)
unfolding chained
one_more Ks x l i h = rw (add-one, drop-cons l i 0 h)

pub loop-block-preserved : goal.loop-block-preserved
loop-block-preserved c =
    let l = c.loop-block in
    let keys = c.args.keys.now in
    let blocks = c.args.blocks.now in
    rw c.encipher_by-last.ensures (sym (one_more keys l.last blocks l.block-index c.loop-block-test.true) ∙ l.invariant)

pub returns : goal.returns
unfolding chained
returns c =
    let l = c.loop-block in
    let blocks = c.args.blocks.now in
    rw (drop_of_length-le blocks {i = l.block-index} c.loop-block-test.false) at l.invariant
