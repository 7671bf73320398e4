use mathlib.Core.Path.{◌≡◌}
use Prim.Native.Nat.{◌+◌, ◌-◌, ◌*◌, ◌^◌, ◌≤◌, ◌<◌}
use lib.ListN.{length, take}
use Rattle.words.specs.BigEndian.{number}
use Rattle.words.proofs.word_64.Given as goal

abbrev pub invariant-loop-b : goal.invariant-loop-b
invariant-loop-b l =
    (l.b-iterator.n ≤ 8) × (l.n < 2 ^ (8 * (8 - l.b-iterator.n)))
    × (l.n * 2 ^ (8 * length (take l.b-iterator.n l.b-iterator.iter.rest.now)) + number (take l.b-iterator.n l.b-iterator.iter.rest.now) ≡ number (take 8 l.bytes))
