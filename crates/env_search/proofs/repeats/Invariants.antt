use mathlib.Core.Path.{◌≡◌}
use Prim.Native.Nat.{◌*◌}
use lib.ListN.{drop}
use Rattle.env.specs.Variable.{repeated}
use Rattle.env.specs.Numbers.{record_width, variables_held}
use Rattle.env_search.proofs.repeats.Given as goal

abbrev pub invariant-loop-i : goal.invariant-loop-i
invariant-loop-i l = repeated (variables_held l.bytes (drop (record_width * l.i) l.numbers)) ≡ repeated (variables_held l.bytes l.numbers)
