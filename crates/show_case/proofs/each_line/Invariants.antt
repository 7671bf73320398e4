-- `show_case::each_line` meets its contract: calls at the lines that are left make, with those that ran, calls at them
-- all. The measure is what is left of the text. Assumes nothing.
use Prim.Native.Nat.{◌-◌}
use lib.ListN.{length, drop}
use Rattle.std.specs.Fn.{CalledAt}
use Rattle.std.specs.List.{FoldsTo}
use Rattle.show_case.specs.Case.{lines}
use Rattle.show_case.proofs.each_line.Given as goal

abbrev pub invariant-loop-at : goal.invariant-loop-at
invariant-loop-at g l =
    goal.F-IsAlwaysCallable g l.f
    × ((last : _) → FoldsTo (λ before line after. CalledAt g.F.FnMut before line tt after) l.f (lines (drop l.at l.text)) last
    → FoldsTo (λ before line after. CalledAt g.F.FnMut before line tt after) l.fn.f (lines l.fn.text) last)

abbrev pub decreases-loop-at : goal.decreases-loop-at
decreases-loop-at g l = length l.text - l.at
