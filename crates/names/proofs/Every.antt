-- A test of each byte of a text is the library's test of all elements. Assumes nothing.
use mathlib.Core.Path.{◌≡◌, refl, ap}
use mathlib.Core.Bool.{Bool, ◌&&◌}
use mathlib.Core.List.{List, [], ◌∷◌, map}
use Prim.Native.Nat.{ℕ}
use Rattle.std.specs.List.{list_all}
use Rattle.names.specs.Range.{every}

pub by_all : (test : ℕ → Bool) (l : List ℕ) → list_all test l ≡ every test l
unfolding every
by_all test [] = refl
by_all test (b ∷ bs) = ap (λ r. test b && r) (by_all test bs)

-- a test of each byte of a text that a function made
pub every_mapped : (test : ℕ → Bool) (f : ℕ → ℕ) (l : List ℕ) → every (λ b. test (f b)) l ≡ every test (map f l)
unfolding every
every_mapped test f [] = refl
every_mapped test f (b ∷ bs) = ap (λ r. test (f b) && r) (every_mapped test f bs)
