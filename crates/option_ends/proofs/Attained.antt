-- The bound of demand 3 is attained (`bound-attained`, the statement `Agreement.BoundAttained`): the list with every
-- refusal in it, computed by the table. Assumes nothing.
use mathlib.Core.Path.{refl, subst⁻¹}
use Rattle.option_rules.specs.declared.Side.{Side}
use Rattle.option_rules.specs.Table.{Row, table}
use Rattle.option_rules.proofs.Chosen.{rules-carried}
use Rattle.option_ends.specs.Ends.{near, far, at, taken, call_result, sent_by, stepped, changed, move, after, count_where, number_told}
use Rattle.option_ends.specs.Ends.{is_command, sends, is_refusal, granted, fresh}
use Rattle.option_ends.specs.Agreement.{every_refusal, Quiet, numbers_told, Attained, BoundAttained}

nothing_left : Quiet (after table fresh every_refusal)
unfolding at after move changed stepped sent_by call_result taken
nothing_left near = refl
nothing_left far = refl

computed : Attained table
unfolding at after move changed stepped sent_by call_result taken number_told numbers_told count_where is_command sends is_refusal granted
computed = record { told = refl; sent = refl; not_refused = refl; quiet = nothing_left }

pub bound-attained : BoundAttained
bound-attained option c = subst⁻¹ (λ (r : Side → Row). Attained r) (rules-carried option c) computed
