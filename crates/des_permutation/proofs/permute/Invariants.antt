use mathlib.Core.Path.{◌≡◌}
use mathlib.Core.List.{List, map}
use Prim.Native.Nat.{ℕ, ◌^◌, ◌<◌}
use lib.ListN.{drop}
use Rattle.des.specs.Blocks.{bit, continued, permuted}
use Rattle.des_permutation.proofs.permute.Given as goal

abbrev pub rest : ℕ → ℕ → ℕ → List ℕ → ℕ
rest w x a places = continued 1 a (map (bit w x) places)

abbrev pub invariant-loop-p : goal.invariant-loop-p
invariant-loop-p l = (l.out < 2 ^ l.p-index) × (rest l.width l.x l.out (drop l.p-index l.places) ≡ permuted l.width l.places l.x)
