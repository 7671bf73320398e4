-- `export_telnet::tv_read` meets its contract: the numbers of what `read` answers. Assumes nothing.
use Rattle.export.proofs.Numbered.{by-numbers}
use Rattle.export_telnet.specs.Numbers.{event_numbers}
use Rattle.export_telnet.proofs.tv_read.Goals as goal

pub returns : goal.returns
returns c = by-numbers event_numbers c.event_numbers.ensures c.read.ensures
