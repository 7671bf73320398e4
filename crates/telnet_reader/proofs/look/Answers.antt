-- `telnet_reader::look` meets its contract. Assumes nothing.
use mathlib.Core.Path.{sym, ap₂, ◌∙◌}
use native.Mathlib.Omega.{arith}
use Rattle.telnet_reader.specs.Promise.{event_found}
use Rattle.telnet.specs.declared.Kind.TheVariants.{Data}
use Rattle.telnet_data.proofs.Stretches.{Measured, measured}
use Rattle.telnet_reader.proofs.Places.{look-past, look-run, look-end, look-command}
use Rattle.telnet_reader.proofs.look.Goals.{After-measure-run}
use Rattle.telnet_reader.proofs.look.Goals as goal

-- the run that was measured
run : (c : After-measure-run) → Measured c.args.s.now c.args.at c.measure-run.result
run c =
    let a = c.args in
    measured a.s.now a.at c.measure-run.result c.measure-run.ensures

pub returns-then-s-at : goal.returns-then-s-at
returns-then-s-at c =
    let a = c.args in
    sym (look-past a.s.now a.at (omega arith))

pub returns-then-count-gt0 : goal.returns-then-count-gt0
returns-then-count-gt0 c =
    let a = c.args in
    let m = run (goal.at.returns-then-count-gt0 c).After-measure-run in
    ap₂ (event_found Data) m.counted m.ended ∙ sym (look-run a.s.now a.at (omega arith) (omega arith))

pub returns-then-at-s : goal.returns-then-at-s
returns-then-at-s c =
    let a = c.args in
    sym (look-end a.s.now a.at (omega arith))

pub returns : goal.returns
returns c =
    let a = c.args in
    c.command.ensures ∙ sym (look-command a.s.now a.at (omega arith) (omega (arith, run (goal.at.returns c).After-measure-run)))
