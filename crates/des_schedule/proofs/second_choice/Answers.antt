-- `des_schedule::second_choice` meets its contract: the code is linear, and agrees with the table at each of the 56
-- bits. Assumes nothing.
use Prim.Native.Nat.{ℕ, ◌*◌, ◌/◌, ◌%◌, ◌^◌}
use lib.Bits.{bit_and}
use Rattle.des.specs.Blocks.{continued, permuted}
use Rattle.des.specs.Tables.{PC-2}
use Rattle.des.proofs.Linear.{Linear, down, cut, up, keep, after, ◌⊕◌, table, agree}
use Rattle.des_schedule.proofs.second_choice.Goals as goal

left : (m k : ℕ) → Linear (λ x. bit_and x m * 2 ^ k % 2 ^ 64)
left m k = after (cut 64) (after (up k) (keep m))

right : (m k : ℕ) → Linear (λ x. bit_and x m / 2 ^ k)
right m k = after (down k) (keep m)

pub returns : goal.returns
unfolding permuted continued
returns c =
    agree
    (left 0x10 18 ⊕ left 0x2 17 ⊕ left 0x110000000 12 ⊕ left 0x220 10 ⊕ left 0x8001 8
    ⊕ left 0x8000000000 7 ⊕ left 0x40000000000 5 ⊕ left 0x100 4 ⊕ left 0x888 3 ⊕ left 0xA00000000 2
    ⊕ left 0x40080000 1 ⊕ keep 0x200000010000 ⊕ right 0x1000 1 ⊕ right 0x20020000000 2 ⊕ right 0x2000000040 3
    ⊕ right 0x2000000 4 ⊕ right 0x400 5 ⊕ right 0x20000 8 ⊕ right 0x8000004000000 9 ⊕ right 0x401000804000 10
    ⊕ right 0x110000000000 11 ⊕ right 0xA4000000000000 12 ⊕ right 0x400000 15 ⊕ right 0x1080000100000 18 ⊕ right 0x10000000000000 20
    ⊕ right 0x2000000000000 21 ⊕ right 0x1000000 24 ⊕ right 0x8000000 26 ⊕ right 0x40000000000000 30)
    (table 56 PC-2) 56 tt c.args.x c.requires
