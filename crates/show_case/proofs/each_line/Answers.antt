-- `show_case::each_line` meets its contract. Assumes nothing.
use mathlib.Core.Path.{◌≡◌, refl, sym}
use lib.ListN.{drop_of_length-le}
use native.Mathlib.Omega.{arith}
use Rattle.std.proofs.Common.{of_calls}
use Rattle.show_case.specs.Case.{after_line, lines}
use Rattle.show_case.proofs.Lines.{lines-at}
use Rattle.show_case.proofs.each_line.Goals as goal

pub loop-at-preserved : goal.loop-at-preserved
loop-at-preserved g c =
    let next : c.after_line-at.result ≡ after_line c.args.text.now c.loop-at.at = c.after_line-at.ensures.0 in (
      search of_calls,
      λ last more. c.loop-at.invariant.1 last
          (rw (lines-at c.args.text.now c.loop-at.at (omega arith))
          (c.f.new.self, record { shown = c.line_at.result; shows = c.line_at.ensures; called = c.f.ensures }, rw (sym next) more)),
    )

pub returns : goal.returns
unfolding lines
returns g c = (c.loop-at.f, c.loop-at.invariant.1 c.loop-at.f (rw (drop_of_length-le c.args.text.now {i = c.loop-at.at} (omega arith)) refl))
