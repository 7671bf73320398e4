-- `claims::demand_1_c` promises that every call from C refuses by its own numbers and leaves all as it was. Assumes
-- nothing.
use Rattle.claims.proofs.ExportRefusals.{demand-1-c-holds}
use Rattle.claims.proofs.demand_1_c.Goals as goal

pub returns : goal.returns
returns c = demand-1-c-holds
