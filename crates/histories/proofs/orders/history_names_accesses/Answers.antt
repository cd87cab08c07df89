use Rattle.histories.proofs.Order.{history_names_accesses_lem}
use Rattle.histories.proofs.orders.history_names_accesses.Goals as goal

pub returns : goal.returns
returns c = history_names_accesses_lem
