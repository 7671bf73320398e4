-- `des_schedule::rotate` meets its contract: what the shift keeps and what comes back have no bit in common. Assumes
-- nothing.
use mathlib.Core.Path.{◌≡◌, ◌∙◌}
use Prim.Native.Nat.{ℕ, ◌+◌, ◌-◌, ◌*◌, ◌/◌, ◌%◌, ◌^◌, ◌<◌}
use native.Mathlib.Nat.{add-zero, add_comm, mul-mod_left, lt_of_le_of_lt}
use native.Mathlib.Omega.{arith}
use lib.Bits.{bit_and, bit_or, and_mask, mask_lt, or_shifted, or_lt}
use lib.Pow.{shl-shr, shr_le, shr_lt, mod-pow-add, mod-mod-pow}
use Rattle.des_schedule.proofs.rotate.Goals as goal

-- a shift by n within m + n bits leaves n zeros
room : (c m n : ℕ) → c * 2 ^ n % 2 ^ (m + n) ≡ c % 2 ^ m * 2 ^ n
room c m n = mod-pow-add (c * 2 ^ n) m n ∙ rw (shl-shr c n, mul-mod_left c (2 ^ n), add-zero)

joins : (c m n : ℕ) → c < 2 ^ (m + n) → bit_or (c * 2 ^ n % 2 ^ (m + n)) (c / 2 ^ m) ≡ c * 2 ^ n % 2 ^ (m + n) + c / 2 ^ m
joins c m n h = rw (room c m n) (or_shifted (c % 2 ^ m) n (c / 2 ^ m) (shr_lt n m (rw (add_comm n m) h)))

pub returns : goal.returns
returns c =
    let n = c.args.n in
    let e : 28 - n + n ≡ 28 = omega arith in
    let kept : bit_and (c.args.c * 2 ^ n % 2 ^ 64) (2 ^ 28 - 1) ≡ c.args.c * 2 ^ n % 2 ^ 28 =
    and_mask (c.args.c * 2 ^ n % 2 ^ 64) 28 ∙ mod-mod-pow (c.args.c * 2 ^ n) 36 28 in (
      rw kept (rw e at (joins c.args.c (28 - n) n (rw e c.requires.0))),
      or_lt 28 _ _ (mask_lt (c.args.c * 2 ^ n % 2 ^ 64) 28) (lt_of_le_of_lt (shr_le c.args.c (28 - n)) c.requires.0),
    )
