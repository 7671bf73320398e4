-- `export_telnet::tv_look` meets its contract: the numbers of what `look` answers. Assumes nothing.
use mathlib.Core.Path.{ap, ◌∙◌}
use Rattle.export_telnet.specs.Numbers.{event_numbers}
use Rattle.export_telnet.proofs.tv_look.Goals as goal

pub returns : goal.returns
returns c = c.event_numbers.ensures ∙ ap event_numbers c.look.ensures
