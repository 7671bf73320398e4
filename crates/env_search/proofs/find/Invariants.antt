use mathlib.Core.Path.{◌≡◌}
use Prim.Native.Nat.{◌*◌}
use lib.ListN.{drop}
use Rattle.env_search.specs.Places.{place_of}
use Rattle.env.specs.Numbers.{record_width}
use Rattle.env_search.proofs.find.Given as goal

abbrev pub invariant-loop-i : goal.invariant-loop-i
invariant-loop-i l = place_of l.kind l.name l.bytes (drop (record_width * l.i) l.numbers) ≡ place_of l.kind l.name l.bytes l.numbers
