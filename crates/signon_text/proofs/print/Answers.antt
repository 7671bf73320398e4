-- `signon_text::print` meets its contract. Assumes nothing.
use mathlib.Core.Path.{sym, ap, ap₂, ◌∙◌}
use native.Mathlib.Omega.{arith}
use lib.ListN.{length}
use Rattle.octets.specs.Ascii.{ascii}
use Rattle.octets.specs.Lent.{outcome, overwrite, at_front}
use Rattle.octets.proofs.Promise.{put_whole}
use Rattle.signon_text.specs.Printed.{line_of}
use Rattle.signon_text.proofs.Lines.{too_long, not-too-long}
use Rattle.signon_text.proofs.print.Goals as goal

pub returns-then-input-gt-LIMIT : goal.returns-then-input-gt-LIMIT
returns-then-input-gt-LIMIT c =
    let a = c.args in
    let long = too_long a.input.now (omega arith) in
    ap₂ outcome (omega (arith, ap length long))
    (put_whole (ascii "TOO LONG\n") a.out.now 0 (omega arith) c.put.ensures ∙ ap (overwrite a.out.now 0) (sym long))

pub returns : goal.returns
returns c =
    let a = c.args in
    c.put_explained.ensures ∙ ap (λ x. at_front (line_of x) a.out.now) c.explained.ensures
    ∙ ap (λ t. at_front t a.out.now) (sym (not-too-long a.input.now (omega arith)))
