-- `play_order::print` meets its contract. Assumes nothing.
use Rattle.play_order.proofs.Ordering.{order-sent}
use Rattle.play_order.proofs.print.Goals as goal

pub returns : goal.returns
returns c =
    let a = c.args in
    order-sent a.down.now a.at c.send_event-between.ensures c.send_event-next.ensures c.send_record.ensures
