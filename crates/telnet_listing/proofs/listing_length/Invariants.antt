use mathlib.Core.Path.{◌≡◌}
use Prim.Native.Nat.{◌+◌, ◌-◌, ◌≤◌}
use lib.ListN.{length}
use Rattle.telnet_listing.specs.Listing.{listing}
use Rattle.telnet_listing.proofs.Lines.{lines_at}
use Rattle.telnet_listing.proofs.listing_length.Given as goal

abbrev pub invariant-loop-total : goal.invariant-loop-total
invariant-loop-total l =
    (l.i ≤ length l.s) × (l.total ≤ l.room) × (l.total + length (lines_at l.s l.i) ≡ length (listing l.s))

abbrev pub decreases-loop-total : goal.decreases-loop-total
decreases-loop-total l = length l.s - l.i
