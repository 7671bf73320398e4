-- Which rules an option has, from what the code learnt of it. Assumes nothing.
use mathlib.Core.Path.{◌≡◌, refl}
use Prim.Native.Nat.{ℕ}
use mathlib.Core.Bool.{Bool, true, false, not}
use lib.Dec.{T}
use Rattle.option_rules.specs.Table.{table, untouched, rules_of}
use Rattle.option_rules.specs.Table.{carried}

pub by_table : (option : ℕ) (b : Bool) → b ≡ carried option → not b ≡ false → rules_of option ≡ table
unfolding rules_of
by_table option true e n = rw (← e)
by_table option false e n = cc

pub by_none : (option : ℕ) (b : Bool) → b ≡ carried option → not b ≡ true → rules_of option ≡ untouched
unfolding rules_of
by_none option true e n = cc
by_none option false e n = rw (← e)

pub rules-carried : (option : ℕ) → T (carried option) → rules_of option ≡ table
rules-carried option = go (carried option) refl
  where
    go : (b : Bool) → b ≡ carried option → T b → rules_of option ≡ table
    go true e t = by_table option true e refl
    go false e t = absurd t
