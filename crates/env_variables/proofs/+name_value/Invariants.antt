-- `env_variables::name` and `env_variables::value` meet their contracts: each way through either is one of the laws of
-- the turns. What is left of the payload falls; a value reader that finds no VALUE hands on all of it, so it counts one
-- more. Assumes nothing.
use Rattle.std.proofs.Common.{◌+◌, ◌*◌, length}
use Rattle.env_variables.proofs.+name_value.Given as goal

abbrev pub decreases-name : goal.decreases-name
decreases-name l = 2 * length l.rest.now

abbrev pub decreases-value : goal.decreases-value
decreases-value l = 2 * length l.rest.now + 1
