-- `env_variables::mark_at` meets its contract. Assumes nothing.
use mathlib.Core.Path.{sym, ◌∙◌}
use Rattle.env_variables.specs.Internal.Texts.{mark_at}
use Rattle.env_variables.proofs.mark_at.Goals as goal

pub returns-then-gives_value : goal.returns-then-gives_value
unfolding mark_at
returns-then-gives_value c = rw (sym c.gives_value.ensures ∙ c.if-gives_value.true)

pub returns : goal.returns
unfolding mark_at
returns c = rw (sym c.gives_value.ensures ∙ c.if-gives_value.false)
