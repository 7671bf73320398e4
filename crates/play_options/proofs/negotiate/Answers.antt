-- `play_options::negotiate` meets its contract. Assumes nothing.
use Rattle.play_options.proofs.Fitting.{no-room-down, no-room-up, both-put}
use Rattle.play_options.proofs.negotiate.Goals as goal

pub returns-then-down-lt18 : goal.returns-then-down-lt18
returns-then-down-lt18 c = no-room-down _ _ c.if-down-lt18.true

pub returns-then-up-lt18 : goal.returns-then-up-lt18
returns-then-up-lt18 c = no-room-up _ _ c.if-down-lt18.false c.if-up-lt18.true

pub returns : goal.returns
returns c =
    both-put _ _ c.if-down-lt18.false c.if-up-lt18.false c.exchange-commands.ensures c.put.ensures c.put-2.ensures
