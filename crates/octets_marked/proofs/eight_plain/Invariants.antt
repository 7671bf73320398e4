use mathlib.Core.Path.{◌≡◌}
use mathlib.Core.Bool.{true}
use Prim.Native.Nat.{ℕ}
use Rattle.octets_marked.specs.Internal.Turn.{Plain}
use Rattle.octets_marked.proofs.eight_plain.Given as goal

abbrev pub invariant-loop-j : goal.invariant-loop-j
invariant-loop-j l = l.plain ≡ true → (mark : ℕ) → Plain mark l.low l.high l.bytes l.at l.j
