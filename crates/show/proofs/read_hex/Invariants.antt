use mathlib.Core.Path.{◌≡◌}
use Prim.Native.Nat.{◌*◌, ◌/◌, ◌≤◌}
use lib.ListN.{length, drop}
use Rattle.octets.specs.Lent.{overwrite}
use Rattle.show.specs.Hex.{hex_bytes}
use Rattle.show.proofs.read_hex.Given as goal

abbrev pub invariant-loop-i : goal.invariant-loop-i
invariant-loop-i l =
    (l.n ≡ length l.text / 2) × (l.n ≤ length l.initial.out) × (length l.out ≡ length l.initial.out)
    × (overwrite l.out l.i (hex_bytes (drop (2 * l.i) l.text)) ≡ overwrite l.initial.out 0 (hex_bytes l.text))
