-- The two limits of a payload, each in its two cases: how long it is, and how many variables it has. Assumes nothing.
use mathlib.Core.Path.{◌≡◌}
use mathlib.Core.List.{List}
use Prim.Native.Nat.{ℕ, ◌≤◌, ◌<◌}
use lib.ListN.{length}
use borrow.Author.Tests.{lt-ltb, le-ltb}
use Rattle.telnet.specs.Event.{payload_limit}
use Rattle.refusal.specs.declared.Refusal.TheVariants.{PayloadTooLong, TooManyVariables}
use Rattle.env.specs.Variable.{variable_limit}
use Rattle.env.specs.Read.{Found, fault, limited, not_read, begun, reading_of}

pub reading-short : (p : List ℕ) → length p ≤ payload_limit → reading_of p ≡ begun p
unfolding reading_of
reading-short p h = rw le-ltb

pub reading-long : (p : List ℕ) → payload_limit < length p → reading_of p ≡ not_read PayloadTooLong
unfolding reading_of
reading-long p h = rw lt-ltb

pub limited-room : (k : ℕ) (found : Found) → k < variable_limit → limited k found ≡ found
unfolding limited
limited-room k found h = rw lt-ltb

pub limited-full : (k : ℕ) (found : Found) → variable_limit ≤ k → limited k found ≡ fault TooManyVariables
unfolding limited
limited-full k found h = rw le-ltb
