use mathlib.Core.Path.{◌≡◌}
use Prim.Native.Nat.{◌*◌}
use lib.ListN.{drop}
use Rattle.env.specs.Numbers.{record_width, placed}
use Rattle.env_writer.proofs.all_placed.Given as goal

abbrev pub invariant-loop-i : goal.invariant-loop-i
invariant-loop-i l = placed l.bytes (drop (record_width * l.i) l.numbers) ≡ placed l.bytes l.numbers
