-- `claims::demand_3` promises what `option_ends` proves. Assumes nothing.
use Rattle.option_ends.proofs.Agreement.{demand3}
use Rattle.option_ends.proofs.Attained.{bound-attained}
use Rattle.claims.proofs.demand_3.Goals as goal

pub returns : goal.returns
returns c = record { agreed = demand3; attained = bound-attained }
