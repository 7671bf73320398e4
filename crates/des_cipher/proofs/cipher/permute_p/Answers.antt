-- `des_cipher::cipher::permute_p` meets its contract: the code is linear, and agrees with the table at each of the 32
-- bits. Assumes nothing.
use Prim.Native.Nat.{ℕ, ◌*◌, ◌/◌, ◌%◌, ◌^◌}
use lib.Bits.{bit_and, bit_xor}
use Rattle.des.specs.Blocks.{continued, permuted}
use Rattle.des.specs.Tables.{P}
use Rattle.des.proofs.Linear.{Linear, as-it-is, down, cut, up, keep, after, ◌⊕◌, table, agree}
use Rattle.des_cipher.proofs.cipher.permute_p.Goals as goal

-- the bits under m of the word that is there twice, shifted right by k
turned : (k m : ℕ) → Linear (λ x. bit_and (bit_xor (x * 2 ^ 32 % 2 ^ 64) x / 2 ^ k) m)
turned k m = after (keep m) (after (down k) (after (cut 64) (up 32) ⊕ as-it-is))

pub returns : goal.returns
unfolding permuted continued
returns c =
    agree
    (turned 6 0x11080 ⊕ turned 7 0x9 ⊕ turned 8 0x8880000 ⊕ turned 10 0x4000 ⊕ turned 11 0x2000000
    ⊕ turned 13 0x40 ⊕ turned 15 0x30008100 ⊕ turned 16 0x20000 ⊕ turned 17 0x80000000 ⊕ turned 18 0x100000
    ⊕ turned 19 0x4 ⊕ turned 20 0x200200 ⊕ turned 21 0x800 ⊕ turned 22 0x10 ⊕ turned 23 0x1000000
    ⊕ turned 26 0x4000000 ⊕ turned 27 0x40402402 ⊕ turned 28 0x40000 ⊕ turned 29 0x20)
    (table 32 P) 32 tt c.args.word c.requires
