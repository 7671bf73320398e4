use mathlib.Core.Path.{◌≡◌}
use mathlib.Core.Bool.{true}
use Prim.Native.Nat.{◌+◌, ◌*◌, min, ◌≤◌}
use lib.ListN.{length, drop}
use Rattle.env.specs.Write.{written_variables}
use Rattle.env.specs.Numbers.{record_width, variables_held, placed}
use Rattle.telnet.specs.Event.{payload_limit}
use Rattle.env_writer.proofs.measure.Given as goal

abbrev pub invariant-loop-i : goal.invariant-loop-i
invariant-loop-i l =
    (l.n ≤ payload_limit + 1) × (placed l.bytes (drop (record_width * l.i) l.numbers) ≡ true)
    × (min (payload_limit + 1) (l.n + length (written_variables (variables_held l.bytes (drop (record_width * l.i) l.numbers))))
    ≡ min (payload_limit + 1) (1 + length (written_variables (variables_held l.bytes l.numbers))))
