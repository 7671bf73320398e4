-- `des_cipher::cipher::widen` meets its contract: both sides are linear in R, and agree at each of its 32 bits. Assumes
-- nothing.
use mathlib.Core.Path.{◌≡◌, ◌∙◌}
use Prim.Native.Nat.{ℕ, suc, ◌-◌, ◌*◌, ◌/◌, ◌%◌, ◌^◌, ◌<◌}
use lib.Dec.{T}
use lib.Bits.{bit_xor, and_mask}
use Rattle.des.specs.Blocks.{continued, permuted, group}
use Rattle.des.specs.Tables.{E}
use Rattle.des.proofs.Each.{at}
use Rattle.des.proofs.Linear.{Linear, down, cut, up, after, ◌⊕◌, table, same, agree}
use Rattle.des_cipher.proofs.cipher.widen.Goals as goal

widened : ℕ → ℕ
widened R = bit_xor (bit_xor (R % 2 ^ 1 * 2 ^ 33 % 2 ^ 64) (R * 2 ^ 1 % 2 ^ 64)) (R / 2 ^ 31)

widened-linear : Linear widened
unfolding widened
widened-linear = after (cut 64) (after (up 33) (cut 1)) ⊕ after (cut 64) (up 1) ⊕ down 31

-- group j + 1 of E(R), by the standard and by the code
left : ℕ → ℕ → ℕ
left j R = group (permuted 32 E R) (suc j)

right : ℕ → ℕ → ℕ
right j R = widened R / 2 ^ (28 - 4 * j) % 2 ^ 6

left-linear : (j : ℕ) → Linear (left j)
unfolding left
left-linear j = after (cut 6) (after (down (48 - 6 * suc j)) (table 32 E))

right-linear : (j : ℕ) → Linear (right j)
unfolding right
right-linear j = after (cut 6) (after (down (28 - 4 * j)) widened-linear)

tested : (j : ℕ) → j < 8 → T (same (left j) (right j) 32)
unfolding left right widened permuted continued
tested j h = at (λ i. same (left i) (right i) 32) 8 tt j h

grouped : (j R : ℕ) → j < 8 → R < 2 ^ 32 → left j R ≡ right j R
grouped j R h g = agree (left-linear j) (right-linear j) 32 (tested j h) R g

pub returns : goal.returns
unfolding left right widened
returns c = λ j h. grouped j c.args.r h c.requires ∙ rw (and_mask c.args.r 1)
