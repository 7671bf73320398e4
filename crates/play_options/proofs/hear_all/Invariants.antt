use mathlib.Core.Path.{◌≡◌}
use Prim.Native.Nat.{◌-◌}
use Rattle.play_options.specs.Internal.Turns.{turns, hears}
use Rattle.play_options.proofs.hear_all.Given as goal

abbrev pub invariant-loop-i : goal.invariant-loop-i
invariant-loop-i l = turns (hears l.heard) (6 - l.i) l.i l.last l.line ≡ turns (hears l.heard) 6 0 l.initial.last l.initial.line
