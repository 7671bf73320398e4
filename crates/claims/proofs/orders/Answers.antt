-- `claims::orders` promises the order of refusals. Assumes nothing.
use Rattle.claims.proofs.OrdersHold.{orders-hold}
use Rattle.claims.proofs.orders.Goals as goal

pub returns : goal.returns
returns c = orders-hold
