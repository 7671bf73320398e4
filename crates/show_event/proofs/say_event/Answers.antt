-- `show_event::say_event` meets its contract: what `look` answers tells the place after. Assumes nothing.
use mathlib.Core.Path.{ap, ◌∙◌}
use Rattle.show_event.specs.Sent.{next_place}
use Rattle.show_event.proofs.say_event.Goals as goal

pub returns : goal.returns
returns c =
    let told = c.look-answer.ensures in
    c.after.ensures ∙ ap (next_place c.args.at) told
