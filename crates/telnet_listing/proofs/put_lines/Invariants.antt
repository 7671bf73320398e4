use mathlib.Core.Path.{◌≡◌}
use Prim.Native.Nat.{◌+◌, ◌-◌, ◌≤◌}
use lib.ListN.{length}
use Rattle.octets.specs.Lent.{overwrite}
use Rattle.telnet_listing.specs.Listing.{listing}
use Rattle.telnet_listing.proofs.Lines.{lines_at}
use Rattle.telnet_listing.proofs.put_lines.Given as goal

abbrev pub invariant-loop-found : goal.invariant-loop-found
invariant-loop-found l =
    (l.i ≤ length l.s) × (length l.out ≡ length l.initial.out) × (l.at + length (lines_at l.s l.i) ≡ length (listing l.s))
    × (overwrite l.out l.at (lines_at l.s l.i) ≡ overwrite l.initial.out 0 (listing l.s))

abbrev pub decreases-loop-found : goal.decreases-loop-found
decreases-loop-found l = length l.s - l.i
