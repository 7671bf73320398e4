-- `play_options::hear_all` meets its contract, as `ask_all` does. Assumes nothing.
use mathlib.Core.Path.{◌∙◌, sym}
use Rattle.play_options.specs.Internal.Turns.{hears}
use Rattle.play_options.proofs.Turning.{turned, no-turns}
use Rattle.play_options.proofs.hear_all.Goals as goal

pub loop-i-preserved : goal.loop-i-preserved
loop-i-preserved c =
    let l = c.loop-i in
    turned (hears _) 6 l.i c.loop-i-test.true l.last l.line c.hear-last.ensures ∙ l.invariant

pub returns : goal.returns
returns c =
    let l = c.loop-i in
    sym (no-turns (hears _) 6 l.i c.loop-i-test.false l.last l.line) ∙ l.invariant
