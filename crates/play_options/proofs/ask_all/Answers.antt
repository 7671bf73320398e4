-- `play_options::ask_all` meets its contract. The invariant: the turns that are left come to what all of them do.
-- Assumes nothing.
use mathlib.Core.Path.{ap, ap₂, ◌∙◌, sym}
use Rattle.option_rules.specs.declared.Command.TheVariants.{On}
use Rattle.option_line.specs.Line.{requested_on}
use Rattle.play_options.specs.Internal.Turns.{turns, asks}
use Rattle.play_options.proofs.Turning.{turned, no-turns}
use Rattle.play_options.proofs.ask_all.Goals as goal

pub loop-i-preserved : goal.loop-i-preserved
loop-i-preserved c =
    let l = c.loop-i in
    let asked = c.request-last.ensures
    ∙ ap₂ (λ w o. requested_on l.last.sides w o On l.down l.last.place) c.whose_at.ensures c.option_at.ensures in
    turned asks 6 l.i c.loop-i-test.true l.last l.down asked ∙ l.invariant

pub returns : goal.returns
returns c =
    let l = c.loop-i in
    sym (no-turns asks 6 l.i c.loop-i-test.false l.last l.down) ∙ l.invariant
    ∙ ap (λ s. turns asks 6 0 s c.args.down.now) c.nothing_sent-last.ensures
