-- `show_event::send_record` meets its contract. Assumes nothing.
use Rattle.telnet.specs.Event.{run, command, eor}
use Rattle.show_event.proofs.Placing.{both-sent}
use Rattle.show_event.proofs.send_record.Goals as goal

pub returns : goal.returns
returns c =
    let a = c.args in
    both-sent (run a.bytes.now) (command eor) a.line.now a.at c.send_event-run.ensures c.send_event.ensures
