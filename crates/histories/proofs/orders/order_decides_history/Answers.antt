use Rattle.histories.proofs.Order.{order_decides_history_lem}
use Rattle.histories.proofs.orders.order_decides_history.Goals as goal

pub returns : goal.returns
returns c = order_decides_history_lem
