use mathlib.Core.Path.{◌≡◌}
use mathlib.Core.Bool.{true}
use Prim.Native.Nat.{◌+◌, ◌*◌, ◌≤◌}
use lib.ListN.{length, drop}
use Rattle.env.specs.Write.{written_variables}
use Rattle.env.specs.Numbers.{record_width, variables_held, placed}
use Rattle.octets.specs.Lent.{overwrite}
use Rattle.env_writer.proofs.put_all.Given as goal

abbrev pub invariant-loop-i : goal.invariant-loop-i
invariant-loop-i l =
    (placed l.bytes (drop (record_width * l.i) l.numbers) ≡ true) × (length l.out ≡ length l.initial.out)
    × (l.at + length (written_variables (variables_held l.bytes (drop (record_width * l.i) l.numbers))) ≤ length l.initial.out)
    × (overwrite l.out l.at (written_variables (variables_held l.bytes (drop (record_width * l.i) l.numbers))) ≡ overwrite l.initial.out 1 (written_variables (variables_held l.bytes l.numbers)))
