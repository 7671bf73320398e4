-- `des_schedule::shift_at` meets its contract: a computed test finds each iteration's number to be the standard's, and
-- below 28. Assumes nothing.
use Prim.Native.Nat.{ℕ, ◌-◌, ◌/◌, ◌^◌, ◌≤◌}
use native.Mathlib.Nat.{le_trans}
use native.Mathlib.Omega.{arith}
use lib.Bits.{bit_and, and_le_r}
use lib.Dec.{eqb, eqb→eq, ltb, ltb→lt}
use lib.ListN.{get_or}
use borrow.Author.Rules.{rules}
use Rattle.des.specs.Tables.{shifts}
use Rattle.des.proofs.Each.{at}
use Rattle.des_schedule.proofs.shift_at.Goals as goal

at_most : (n : ℕ) → bit_and n 1 ≤ 2
at_most n = le_trans (and_le_r n 1) (omega arith)

pub overflow_sub-result : goal.overflow_sub-result
overflow_sub-result c = search (at_most, rules)

pub returns : goal.returns
returns c =
    let i = c.args.i in
    let n = 2 - bit_and (0x8103 / 2 ^ i) 1 in (
      eqb→eq n (get_or shifts i 0) (at (λ k. eqb (2 - bit_and (0x8103 / 2 ^ k) 1) (get_or shifts k 0)) 16 tt i (omega arith)),
      ltb→lt n 28 (at (λ k. ltb (2 - bit_and (0x8103 / 2 ^ k) 1) 28) 16 tt i (omega arith)),
    )
