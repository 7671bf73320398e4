-- The library's order of slices is the order of names. Assumes nothing.
use Rattle.std.specs.Prelude.{Option, Some, cond}
use mathlib.Core.Path.{◌≡◌, refl}
use mathlib.Core.Bool.{Bool, true, false, ◌&&◌, ◌||◌}
use mathlib.Core.List.{List, [], ◌∷◌}
use Prim.Native.Nat.{ℕ}
use lib.Dec.{eqb, ltb}
use Rattle.std.specs.declared.cmp.Ordering.{Ordering}
use Rattle.std.specs.declared.cmp.Ordering.TheVariants.{Less, Equal, Greater}
use Rattle.std.specs.Ordering.{is_lt, is_some_and, partial_ordering_then, nat_cmp}
use Rattle.std.specs.Cmp.Lexicographic.{slice_partial_cmp}
use Rattle.names.specs.Order.{precedes}

-- the first two bytes, by their two tests, before what the rest says
first : (t u : Bool) (rest : Option Ordering) (p : Bool) → is_some_and is_lt rest ≡ p
    → is_some_and is_lt (partial_ordering_then (Some (cond t Less (cond u Equal Greater))) rest) ≡ (t || (u && p))
first true u rest p e = refl
first false true rest p e = e
first false false rest p e = refl

pub in_order : (a b : List ℕ) → is_some_and is_lt (slice_partial_cmp (λ x y. Some (nat_cmp x y)) a b) ≡ precedes a b
unfolding precedes
in_order [] [] = refl
in_order [] (y ∷ ys) = refl
in_order (x ∷ xs) [] = refl
in_order (x ∷ xs) (y ∷ ys) = first (ltb x y) (eqb x y) _ _ (in_order xs ys)
