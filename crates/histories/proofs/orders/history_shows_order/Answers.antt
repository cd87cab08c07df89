use Rattle.histories.proofs.Reading.{history_shows_order_lem}
use Rattle.histories.proofs.orders.history_shows_order.Goals as goal

pub returns : goal.returns
returns c = history_shows_order_lem
