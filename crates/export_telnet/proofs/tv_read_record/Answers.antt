-- `export_telnet::tv_read_record` meets its contract: the numbers of what `read_record` answers. Assumes nothing.
use Rattle.export.proofs.Numbered.{by-numbers}
use Rattle.export_telnet.specs.Numbers.{record_numbers}
use Rattle.export_telnet.proofs.tv_read_record.Goals as goal

pub returns : goal.returns
returns c = by-numbers record_numbers c.record_numbers.ensures c.read_record.ensures
