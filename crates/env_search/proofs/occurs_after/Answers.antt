-- `env_search::occurs_after` meets its contract. Assumes nothing.
use Rattle.env_search.proofs.occurs_after.Goals as goal

pub returns : goal.returns
returns c = rw (← c.record_at-v.ensures, ← c.part-name.ensures) c.occurs.ensures
