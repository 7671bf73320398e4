use mathlib.Core.Path.{◌≡◌}
use Prim.Native.Nat.{◌+◌, ◌-◌, ◌≤◌}
use lib.ListN.{length, drop}
use Rattle.env_text.specs.Text.{text_of}
use Rattle.env_text.specs.Internal.Scan.{IsWidth}
use Rattle.env_text.proofs.extent_at.Given as goal

abbrev pub invariant-loop-w : goal.invariant-loop-w
invariant-loop-w l =
    IsWidth l.s l.i l.w × (l.from + l.n ≤ l.i) × (l.i ≤ length l.s) × (l.n + length (text_of (drop l.i l.s)).bytes ≡ length (text_of (drop l.from l.s)).bytes)
    × ((text_of (drop l.i l.s)).after ≡ (text_of (drop l.from l.s)).after)

abbrev pub decreases-loop-w : goal.decreases-loop-w
decreases-loop-w l = length l.s - l.i
