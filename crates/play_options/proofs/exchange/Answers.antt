-- `play_options::exchange` meets its contract. Assumes nothing.
use Rattle.play_options.proofs.Resting.{exchanged-so}
use Rattle.play_options.proofs.exchange.Goals as goal

pub returns : goal.returns
returns c =
    exchanged-so c.ask_all-asked.ensures c.nothing_sent.ensures c.hear_all.ensures c.hear_all-host.ensures
    c.all_on.ensures
