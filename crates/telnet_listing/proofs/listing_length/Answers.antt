-- `telnet_listing::listing_length` meets its contract. The loop's invariant: the lengths so far and those of the lines
-- from here on make the whole. The measure is how many bytes are left. Assumes nothing.
use Rattle.std.specs.Prelude.{Ok}
use mathlib.Core.Path.{◌≡◌, refl, sym, ap, ◌∙◌}
use Prim.Native.Nat.{◌+◌}
use native.Mathlib.Omega.{arith}
use lib.ListN.{length}
use Rattle.telnet_listing.specs.Listing.{listing}
use Rattle.telnet_line.proofs.Few.{text-length}
use Rattle.telnet_listing.proofs.Sized.{sized-fits, sized-refused}
use Rattle.telnet_listing.proofs.Lines.{lines-all, turn-length, further}
use Rattle.telnet_listing.proofs.listing_length.Goals as goal

pub loop-total-init : goal.loop-total-init
loop-total-init c = (omega arith, omega arith, omega (arith, ap length (lines-all c.args.s.now)))

pub returns-then-room-total : goal.returns-then-room-total
returns-then-room-total c =
    let l = c.loop-total in
    let a = c.args in
    let t = turn-length a.s.now l.i l.invariant.0 c.look-answer.ensures refl in
    sym (sized-refused (listing a.s.now) a.room (omega (arith, t, text-length _ c.line_text-text.ensures)))

pub loop-total-smaller : goal.loop-total-smaller
loop-total-smaller c =
    let l = c.loop-total in
    omega (arith, further c.args.s.now l.i l.invariant.0 c.look-answer.ensures (sym c.in-Some.ensures))

pub loop-total-preserved : goal.loop-total-preserved
loop-total-preserved c =
    let l = c.loop-total in
    let s = c.args.s.now in
    let t = turn-length s l.i l.invariant.0 c.look-answer.ensures (sym c.in-Some.ensures) in
    ((further s l.i l.invariant.0 c.look-answer.ensures (sym c.in-Some.ensures)).1, omega arith, omega (arith, t, text-length _ c.line_text-text.ensures))

pub returns-in_default : goal.returns-in_default
returns-in_default c =
    let l = c.loop-total in
    let a = c.args in
    let t = turn-length a.s.now l.i l.invariant.0 c.look-answer.ensures (sym c.in_default.ensures) in
    let all : l.total + c.line_text-text.result.length ≡ length (listing a.s.now) = omega (arith, t, text-length _ c.line_text-text.ensures) in
    ap Ok all ∙ sym (sized-fits (listing a.s.now) a.room (omega (arith, all)))
