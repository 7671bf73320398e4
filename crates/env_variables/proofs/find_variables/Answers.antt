-- `env_variables::find_variables` meets its contract: the two arrays have the room that the name reader asks for.
-- Assumes nothing.
use Rattle.env.specs.Read.{variables_of}
use Rattle.env_variables.proofs.find_variables.Goals as goal

pub returns : goal.returns
unfolding variables_of
returns c = c.name.ensures
