-- Nothing is done at a place past the end of the line; at any other the test for it changes nothing. Assumes nothing.
use mathlib.Core.Path.{◌≡◌}
use mathlib.Core.List.{List}
use Prim.Native.Nat.{ℕ, ◌≤◌, ◌<◌}
use lib.ListN.{length}
use borrow.Author.Tests.{lt-ltb, le-ltb}
use Rattle.octets.specs.Lent.{Outcome, outcome}
use Rattle.std.specs.Prelude.{Some}
use Rattle.refusal.specs.declared.Refusal.TheVariants.{PastTheEnd}
use Rattle.option_sides.specs.declared.Sides.{Sides}
use Rattle.option_line.specs.declared.Sent.{Sent}
use Rattle.option_line.specs.Line.{sent, unless_past}

module _ (s : Sides) (line : List ℕ) (at : ℕ) (o : Outcome Sent) where
  pub past : length line < at → unless_past s line at o ≡ outcome (sent s (Some PastTheEnd) at) line
  unfolding unless_past
  past h = rw (lt-ltb (length line) at h)

  pub within : at ≤ length line → unless_past s line at o ≡ o
  unfolding unless_past
  within h = rw (le-ltb (length line) at h)
