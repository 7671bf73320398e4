-- `des_schedule::key_of` meets its contract: C and D have no bit in common where they are joined. Assumes nothing.
use mathlib.Core.Path.{◌≡◌, ap, ◌∙◌}
use Prim.Native.Nat.{ℕ, ◌+◌, ◌*◌, ◌%◌, ◌^◌, ◌<◌}
use native.Mathlib.Omega.{arith}
use lib.Bits.{bit_or, or_shifted}
use Rattle.des.specs.Blocks.{permuted, groups}
use Rattle.des.specs.Tables.{PC-2}
use Rattle.des_schedule.proofs.key_of.Goals as goal

joins : (c d : ℕ) → c < 2 ^ 28 → d < 2 ^ 28 → bit_or (c * 2 ^ 28 % 2 ^ 64) d ≡ c * 2 ^ 28 + d
joins c d h g =
    let e : c * 2 ^ 28 % 2 ^ 64 ≡ c * 2 ^ 28 = omega arith in
    rw e (or_shifted c 28 d g)

pub second_choice-requires : goal.second_choice-requires
second_choice-requires c = rw (joins c.args.c c.args.d c.requires.0 c.requires.1) (omega arith)

pub returns : goal.returns
returns c =
    let whole = ap (permuted 56 PC-2) (joins c.args.c c.args.d c.requires.0 c.requires.1) in
    c.split.ensures ∙ ap groups (c.second_choice.ensures ∙ whole)
