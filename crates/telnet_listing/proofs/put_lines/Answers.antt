-- `telnet_listing::put_lines` meets its contract. The loop's invariant: to put the lines from here on after those that
-- are there gives the whole. The measure is how many bytes are left. Assumes nothing.
use mathlib.Core.Path.{◌≡◌, refl, sym, ap, ap₂, ◌∙◌}
use native.Mathlib.Omega.{arith}
use lib.ListN.{length}
use borrow.Author.Rules.{rules}
use Rattle.octets.specs.Lent.{outcome, overwrite}
use Rattle.telnet_line.proofs.Few.{text-length, text-put, text-few}
use Rattle.telnet_listing.proofs.Lines.{lines-all, turn-length, turn-put, last-put, further}
use Rattle.telnet_listing.proofs.put_lines.Goals as goal

pub loop-found-init : goal.loop-found-init
loop-found-init c =
    let s = c.args.s.now in
    (omega arith, refl, omega (arith, ap length (lines-all s)), ap (overwrite c.args.out.now 0) (lines-all s))

pub slice_bounds-put-end : goal.slice_bounds-put-end
slice_bounds-put-end c =
    let t = c.line_text-line in
    let all : length t.result.bytes ≡ 67 = search rules in
    omega (arith, all, text-length _ t.ensures, text-few _ t.ensures all)

pub loop-found-smaller : goal.loop-found-smaller
loop-found-smaller c =
    let l = c.loop-found in
    omega (arith, further c.args.s.now l.i l.invariant.0 c.look-answer.ensures (sym c.in-Some.ensures))

pub loop-found-preserved : goal.loop-found-preserved
loop-found-preserved c =
    let l = c.loop-found in
    let s = c.args.s.now in
    let n = text-length _ c.line_text-line.ensures in
    let t = turn-length s l.i l.invariant.0 c.look-answer.ensures (sym c.in-Some.ensures) in
    let put = text-put _ c.line_text-line.ensures l.out l.at (omega (arith, t)) c.put.ensures in (
      (further s l.i l.invariant.0 c.look-answer.ensures (sym c.in-Some.ensures)).1,
      c.put.auto.buffer ∙ l.invariant.1,
      omega (arith, t, n),
      turn-put s l.i l.invariant.0 c.look-answer.ensures (sym c.in-Some.ensures) l.out l.at (omega arith) put n ∙ l.invariant.3,
    )

pub returns-in_default : goal.returns-in_default
returns-in_default c =
    let l = c.loop-found in
    let s = c.args.s.now in
    let t = turn-length s l.i l.invariant.0 c.look-answer.ensures (sym c.in_default.ensures) in
    let put = text-put _ c.line_text-line.ensures l.out l.at (omega (arith, t)) c.put.ensures in
    ap₂ outcome (omega (arith, l.invariant, t, text-length _ c.line_text-line.ensures))
    (last-put s l.i l.invariant.0 c.look-answer.ensures (sym c.in_default.ensures) refl l.out l.at put ∙ l.invariant.3)
