-- A test that antt computes at each number below n, and what it says of one of them. Assumes nothing.
use mathlib.Core.Bool.{Bool, true, ◌&&◌}
use Prim.Native.Nat.{ℕ, zero, suc, ◌<◌}
use native.Mathlib.Numerals.{add-one}
use lib.Dec.{T}
use borrow.Author.Count.{below_none, below_more}
use mir.Facts.{and_yes}

abbrev pub each : (ℕ → Bool) → ℕ → Bool
each p zero = true
each p (suc n) = p n && each p n

pub at : (p : ℕ → Bool) (n : ℕ) → T (each p n) → (k : ℕ) → k < n → T (p k)
at p zero t k h = below_none (λ i. T (p i)) k h
at p (suc n) t k h =
    let y = and_yes (p n) (each p n) t in
    below_more (λ i. T (p i)) n (at p n y.1) y.0 k (rw add-one h)
