-- `export_signon::tv_response` meets its contract: the numbers of what `response` answers on the verdict that is named.
-- Assumes nothing.
use Rattle.export.specs.Numbers.{written_numbers}
use Rattle.export.proofs.Numbered.{by-numbers}
use Rattle.export_signon.proofs.tv_response.Goals as goal

pub returns : goal.returns
returns c =
    rw (← c.verdict_named-given.ensures) (by-numbers written_numbers c.written_numbers.ensures c.response.ensures)
