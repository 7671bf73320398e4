use mathlib.Core.Path.{◌≡◌}
use Prim.Native.Nat.{◌-◌}
use Rattle.play_options.specs.Internal.Turns.{turns, asks}
use Rattle.play_options.proofs.ask_all.Given as goal

abbrev pub invariant-loop-i : goal.invariant-loop-i
invariant-loop-i l = turns asks (6 - l.i) l.i l.last l.down ≡ turns asks 6 0 l.initial.last l.initial.down
