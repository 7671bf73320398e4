use mathlib.Core.Path.{◌≡◌}
use Prim.Native.Nat.{◌*◌}
use lib.ListN.{drop}
use Rattle.env.specs.Variable.{among}
use Rattle.env.specs.Numbers.{record_width, variables_held}
use Rattle.env_search.proofs.occurs.Given as goal

abbrev pub invariant-loop-i : goal.invariant-loop-i
invariant-loop-i l =
    among l.kind l.name (variables_held l.bytes (drop (record_width * l.i) l.numbers)) ≡ among l.kind l.name (variables_held l.bytes (drop (record_width * l.from) l.numbers))
