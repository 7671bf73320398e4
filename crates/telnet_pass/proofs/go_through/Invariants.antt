use mathlib.Core.Path.{◌≡◌}
use Prim.Native.Nat.{◌-◌, ◌≤◌}
use lib.ListN.{length, take, drop}
use Rattle.telnet_fragments.specs.Call.{given}
use Rattle.telnet_fragments.specs.Promise.{standing}
use Rattle.telnet_pass.proofs.Running.{ahead}
use Rattle.telnet_pass.proofs.go_through.Given as goal

abbrev pub invariant-loop-i : goal.invariant-loop-i
invariant-loop-i l =
    (l.i ≤ length l.s) × (l.d ≤ l.i) × (length l.kept ≡ 1024) × (length l.out ≡ length l.initial.out) × (drop l.d l.out ≡ drop l.d l.initial.out)
    × (ahead l.i (take l.d l.out) (given (standing l.at l.n l.kept) (drop l.i l.s)) ≡ given (standing l.initial.at l.initial.n l.initial.kept) l.s)

abbrev pub decreases-loop-i : goal.decreases-loop-i
decreases-loop-i l = length l.s - l.i
