-- `claims::worked_lines` promises what `proofs/Worked.antt` proves. Assumes nothing.
use Rattle.claims.proofs.Worked.{all_hold}
use Rattle.claims.proofs.worked_lines.Goals as goal

pub returns : goal.returns
returns c = all_hold
