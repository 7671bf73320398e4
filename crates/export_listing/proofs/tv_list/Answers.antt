-- `export_listing::tv_list` meets its contract: the numbers of what `list` answers. Assumes nothing.
use Rattle.export.specs.Numbers.{written_numbers}
use Rattle.export.proofs.Numbered.{by-numbers}
use Rattle.export_listing.proofs.tv_list.Goals as goal

pub returns : goal.returns
returns c = by-numbers written_numbers c.written_numbers.ensures c.list.ensures
