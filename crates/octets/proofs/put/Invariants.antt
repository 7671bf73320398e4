use mathlib.Core.Path.{◌≡◌}
use Prim.Native.Nat.{◌+◌, ◌≤◌}
use lib.ListN.{length, drop}
use Rattle.octets.specs.Lent.{overwrite}
use Rattle.octets.proofs.put.Given as goal

abbrev pub invariant-loop-i : goal.invariant-loop-i
invariant-loop-i l =
    (l.i ≤ length l.bytes) × (l.at + length l.bytes ≤ length l.initial.buffer) × (length l.buffer ≡ length l.initial.buffer)
    × (overwrite l.buffer (l.at + l.i) (drop l.i l.bytes) ≡ overwrite l.initial.buffer l.at l.bytes)
