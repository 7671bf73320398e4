-- How many bits a block has that a table gives. Assumes nothing.
use mathlib.Core.List.{List, [], ◌∷◌, map}
use Prim.Native.Nat.{ℕ, suc, ◌+◌, ◌*◌, ◌^◌, ◌<◌}
use native.Mathlib.Nat.{add-zero, zero-add, add-suc, suc-add, pow-suc}
use native.Mathlib.Omega.{arith}
use lib.ListN.{length}
use Rattle.des.specs.Blocks.{bit, continued, permuted}

continued-lt : (w x : ℕ) (t : List ℕ) (a i : ℕ) → a < 2 ^ i → continued 1 a (map (bit w x) t) < 2 ^ (i + length t)
unfolding continued
continued-lt w x [] a i h = rw add-zero h
continued-lt w x (p ∷ ps) a i h =
    rw (add-suc i (length ps), ← suc-add i (length ps)) (continued-lt w x ps (a * 2 + bit w x p) (suc i) (omega (arith, pow-suc 2 i)))

-- a table gives a block of as many bits as it has places
pub permuted-lt : (w : ℕ) (t : List ℕ) (x : ℕ) → permuted w t x < 2 ^ length t
unfolding permuted
permuted-lt w t x = rw zero-add at (continued-lt w x t 0 0 (omega arith))
