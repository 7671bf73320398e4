use mathlib.Core.Path.{◌≡◌}
use Prim.Native.Nat.{◌≤◌}
use lib.ListN.{length, drop, replicate}
use Rattle.octets.specs.Lent.{overwrite}
use Rattle.names.specs.Name.{raised}
use Rattle.names.proofs.raised_bytes.Given as goal

abbrev pub invariant-loop-i : goal.invariant-loop-i
invariant-loop-i l =
    (l.i ≤ length l.text) × (length l.bytes ≡ 10) × (overwrite l.bytes l.i (drop l.i (raised l.text)) ≡ overwrite (replicate 10 0) 0 (raised l.text))
