use Rattle.runs.proofs.Ends.{always_ends_as_written_lem}
use Rattle.runs.proofs.written_order.always_ends_as_written.Goals as goal

pub returns : goal.returns
returns g c = always_ends_as_written_lem g.row.V.Denot g.row.M.Denot g.row.F.Denot
