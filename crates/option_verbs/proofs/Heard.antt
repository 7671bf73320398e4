-- What one end says of a side the other hears of it: the theorem `Verbs.HeardAsSaid`. Assumes nothing.
use mathlib.Core.Path.{refl}
use Rattle.option_rules.specs.declared.Command.TheVariants.{On as on, Off as off}
use Rattle.option_verbs.specs.declared.Whose.TheVariants.{Ours, Other}
use Rattle.option_verbs.specs.Verbs.{HeardAsSaid}

pub heard-as-said : HeardAsSaid
heard-as-said Ours on = refl
heard-as-said Ours off = refl
heard-as-said Other on = refl
heard-as-said Other off = refl
