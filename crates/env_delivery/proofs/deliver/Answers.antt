-- `env_delivery::deliver` meets its contract. Assumes nothing.
use mathlib.Core.Path.{◌≡◌, sym, ◌∙◌}
use mathlib.Core.Bool.{Bool, true, false}
use Rattle.env.specs.Variable.{repeated}
use Rattle.env.specs.Numbers.{variables_held}
use Rattle.env_delivery.specs.Promise.{deliver_read}
use Rattle.env_delivery.proofs.deliver.Goals.{After-repeats}
use Rattle.env_delivery.proofs.deliver.Goals as goal

-- what is known of repeats, by what `repeats` answered
told : (c : After-repeats) → let a = c.args in
    (t : Bool) → c.repeats.result ≡ t → repeated (variables_held a.texts.now a.records.now) ≡ t
told c t e =
    sym c.repeats.ensures ∙ e

pub returns-then-repeats : goal.returns-then-repeats
unfolding deliver_read
returns-then-repeats c = rw (told (goal.at.returns-then-repeats c).After-repeats true c.if-repeats.true)

pub returns : goal.returns
unfolding deliver_read
returns c = rw (told (goal.at.returns c).After-repeats false c.if-repeats.false) c.hand_over.ensures
