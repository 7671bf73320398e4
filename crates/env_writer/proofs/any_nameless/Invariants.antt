use mathlib.Core.Path.{◌≡◌}
use mathlib.Core.Bool.{true}
use mathlib.Core.List.{List}
use Prim.Native.Nat.{ℕ, ◌*◌}
use lib.ListN.{drop}
use Rattle.env.specs.Write.{nameless}
use Rattle.env.specs.Numbers.{record_width, variables_held, placed}
use Rattle.env_writer.proofs.any_nameless.Given as goal

abbrev pub invariant-loop-i : goal.invariant-loop-i
invariant-loop-i l =
    (bytes : List ℕ) → placed bytes l.numbers ≡ true
    → (placed bytes (drop (record_width * l.i) l.numbers) ≡ true) × (nameless (variables_held bytes l.numbers) ≡ nameless (variables_held bytes (drop (record_width * l.i) l.numbers)))
