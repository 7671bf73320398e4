-- `des_cipher::cipher::boxed` meets its contract: the mask leaves the six bits that count, and the number is at its
-- place of the array. Assumes nothing.
use mathlib.Core.List.{List}
use Prim.Native.Nat.{ℕ, ◌-◌, ◌*◌, ◌/◌, ◌^◌}
use native.Mathlib.Omega.{arith}
use lib.Bits.{bit_and, bit_xor, and_mask, mask_lt}
use lib.ListN.{get_or}
use Rattle.des_cipher.proofs.Selection.{within, entry_at}
use Rattle.des_cipher.proofs.cipher.boxed.Goals as goal

-- the bits before the last mask
abbrev sum : ℕ → List ℕ → ℕ → ℕ
sum e K j = bit_xor (bit_and (e / 2 ^ (28 - 4 * j)) 63) (get_or K j 0)

pub overflow_cast-b : goal.overflow_cast-b
overflow_cast-b c = omega (arith, mask_lt (c.args.e / 2 ^ (28 - 4 * c.args.j)) 6)

pub overflow_cast-result : goal.overflow_cast-result
overflow_cast-result c =
    let a = c.args in
    omega (arith, mask_lt (sum a.e a.key.now a.j) 6)

pub overflow_add-result : goal.overflow_add-result
overflow_add-result c =
    let a = c.args in
    omega (arith, within a.j (sum a.e a.key.now a.j) c.requires.1)

pub bounds-boxes-j : goal.bounds-boxes-j
bounds-boxes-j c =
    let a = c.args in
    within a.j (sum a.e a.key.now a.j) c.requires.1

pub returns : goal.returns
returns c =
    let a = c.args in
    rw (c.requires.0, ← and_mask (a.e / 2 ^ (28 - 4 * a.j)) 6)
    (entry_at a.j (sum a.e a.key.now a.j) c.requires.1)
