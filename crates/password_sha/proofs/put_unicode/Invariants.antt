use mathlib.Core.Path.{◌≡◌}
use Prim.Native.Nat.{◌+◌, ◌*◌, ◌≤◌}
use lib.ListN.{length, drop}
use Rattle.octets.specs.Lent.{overwrite}
use Rattle.password_sha.specs.Sha.{unicode}
use Rattle.password_sha.proofs.put_unicode.Given as goal

abbrev pub invariant-loop-i : goal.invariant-loop-i
invariant-loop-i l =
    (l.i ≤ length l.text) × (l.at + 2 * length l.text ≤ length l.initial.out) × (length l.out ≡ length l.initial.out)
    × (overwrite l.out (l.at + 2 * l.i) (unicode (drop l.i l.text)) ≡ overwrite l.initial.out l.at (unicode l.text))
