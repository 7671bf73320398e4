use mathlib.Core.Path.{◌≡◌}
use mathlib.Core.List.{List}
use Prim.Native.Nat.{ℕ, ◌+◌, ◌-◌, ◌≤◌}
use lib.ListN.{length, take, drop}
use Rattle.octets.specs.Lent.{overwrite}
use Rattle.env_text.specs.Text.{text_of}
use Rattle.env_text.proofs.copy_text.Given as goal

abbrev pub left : List ℕ → ℕ → ℕ → List ℕ
left s i n = take n (text_of (drop i s)).bytes

abbrev pub invariant-loop-k : goal.invariant-loop-k
invariant-loop-k l =
    (l.k ≤ l.count) × (l.at + l.count ≤ length l.initial.out) × (length l.out ≡ length l.initial.out) × (overwrite l.out (l.at + l.k) (left l.s l.i (l.count - l.k)) ≡ overwrite l.initial.out l.at (left l.s l.from l.count))
