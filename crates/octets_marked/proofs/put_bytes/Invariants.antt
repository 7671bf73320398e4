use mathlib.Core.Path.{◌≡◌}
use lib.ListN.{length}
use Rattle.octets_marked.specs.Internal.Turn.{Further}
use Rattle.octets_marked.proofs.put_bytes.Given as goal

abbrev pub invariant-loop-i : goal.invariant-loop-i
invariant-loop-i l = (length l.out ≡ length l.initial.out) × Further l.mark l.low l.high l.bytes l.from l.initial.out l.at l.i l.k l.out
