-- `show_case::say_each` meets its contract: calls at the items that are left make, with those that ran, calls at them
-- all. Assumes nothing.
use lib.ListN.{drop}
use Rattle.std.specs.List.{FoldsTo}
use Rattle.show_case.proofs.say_each.Given as goal

abbrev pub invariant-loop-item : goal.invariant-loop-item
invariant-loop-item g l =
    goal.F-IsAlwaysCallable g l.say
    × ((last : _) → FoldsTo (λ before item after. goal.F-step g before item tt after) l.say (drop l.item-index l.items) last
    → FoldsTo (λ before item after. goal.F-step g before item tt after) l.fn.say l.fn.items last)
