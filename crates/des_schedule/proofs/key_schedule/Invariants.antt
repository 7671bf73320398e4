use mathlib.Core.Path.{◌≡◌}
use mathlib.Core.List.{◌++◌}
use Prim.Native.Nat.{◌^◌, ◌<◌}
use lib.ListN.{length, take, drop}
use Rattle.des.specs.Schedule.{keys_from, round_keys}
use Rattle.des.specs.Tables.{shifts}
use Rattle.des_schedule.proofs.key_schedule.Given as goal

abbrev pub invariant-loop-i : goal.invariant-loop-i
invariant-loop-i l =
    (l.c < 2 ^ 28) × (l.d < 2 ^ 28) × (length l.keys ≡ 16) × (take l.i l.keys ++ keys_from l.c l.d (drop l.i shifts) ≡ round_keys l.key)
