-- `telnet_listing::print` meets its contract: what is printed fits the room (`Room.fits`), so nothing is refused.
-- Assumes nothing.
use mathlib.Core.Path.{sym, ap, ap₂, ◌∙◌}
use native.Mathlib.Omega.{arith}
use lib.ListN.{length}
use Rattle.octets.specs.Ascii.{ascii}
use Rattle.octets.specs.Lent.{outcome, overwrite, at_front}
use Rattle.octets.proofs.Promise.{put_whole}
use Rattle.telnet_listing.proofs.Room.{printed-long, printed-listed, fits}
use Rattle.telnet_listing.proofs.print.Goals as goal

pub returns-then-input-gt-LIMIT : goal.returns-then-input-gt-LIMIT
returns-then-input-gt-LIMIT c =
    let a = c.args in
    let long = printed-long a.input.now (omega arith) in
    ap₂ outcome (omega (arith, ap length long))
    (put_whole (ascii "TOO LONG\n") a.out.now 0 (omega arith) c.put.ensures ∙ ap (overwrite a.out.now 0) (sym long))

pub put_lines-requires : goal.put_lines-requires
put_lines-requires c =
    let s = c.args.input.now in
    omega (arith, ap length (printed-listed s (omega arith)), fits s (λ i. omega (arith, c.shared_slice_known-1.given i)))

pub returns : goal.returns
returns c =
    let a = c.args in
    c.put_lines.ensures ∙ ap (λ x. at_front x a.out.now) (sym (printed-listed a.input.now (omega arith)))
