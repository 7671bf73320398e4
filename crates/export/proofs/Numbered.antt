-- An outcome whose answer was made numbers is the outcome by numbers. Assumes nothing.
use mathlib.Core.Path.{◌≡◌, ap, ◌∙◌}
use Prim.Native.Nat.{ℕ}
use mathlib.Core.List.{List}
use Rattle.octets.specs.Lent.{Outcome, outcome}
use Rattle.export.specs.Numbers.{numbered}

pub by-numbers : {A B : Type 0} (f : A → B) {a : A} {b : B} {l : List ℕ} {o : Outcome A} → b ≡ f a → outcome a l ≡ o → outcome b l ≡ numbered f o
by-numbers f {a} {b} {l} {o} e told = ap (λ (x : _). outcome x l) e ∙ ap (numbered f) told
