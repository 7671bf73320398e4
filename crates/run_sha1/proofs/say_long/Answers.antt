-- `run_sha1::say_long` is safe: the room has as many bytes as it is lent with. Assumes nothing.
use mathlib.Core.Path.{sym}
use Prim.Native.Nat.{ℕ}
use lib.ListN.{length-replicate}
use Rattle.run_sha1.proofs.say_long.Goals as goal

pub slice_bounds-say_series-end : goal.slice_bounds-say_series-end
slice_bounds-say_series-end c = sym (length-replicate {A = ℕ} 1000000 0)
