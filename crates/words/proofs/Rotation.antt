-- A rotation whose right shift is taken modulo the width, so that it is none where the left one is none, is `rotl`.
-- Assumes nothing.
use mathlib.Core.Path.{◌≡◌}
use Prim.Native.Nat.{ℕ, zero, suc, ◌-◌, ◌*◌, ◌/◌, ◌%◌, ◌^◌, ◌<◌}
use native.Mathlib.Nat.{sub-zero, mod_self, mod-eq_of_lt, mul-one, div-one, div-eq_of_lt}
use native.Mathlib.Omega.{arith}
use lib.Bits.{bit_or, or_self, or_zero_r}
use Rattle.words.specs.Word.{rotl}

pub turned : (w k x : ℕ) → k < w → x < 2 ^ w → bit_or (x * 2 ^ k % 2 ^ w) (x / 2 ^ ((w - k) % w)) ≡ rotl w k x
unfolding rotl
turned w zero x h g = rw (sub-zero, mod_self, mul-one, mod-eq_of_lt g, div-one, or_self, div-eq_of_lt g, or_zero_r)
turned w (suc j) x h g =
    let l : w - suc j < w = omega arith in
    rw (mod-eq_of_lt l)
