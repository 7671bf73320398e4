-- `names_order::precedes` meets its contract: the library's order of slices. Assumes nothing.
use mathlib.Core.Path.{◌∙◌}
use Rattle.names_order.proofs.Steps.{in_order}
use Rattle.names_order.proofs.precedes.Goals as goal

pub returns : goal.returns
returns c = c.lt.ensures ∙ in_order c.args.one.now c.args.other.now
