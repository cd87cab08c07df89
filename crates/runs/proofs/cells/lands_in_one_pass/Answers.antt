use Rattle.runs.proofs.Landing.{lands_as_listed, lands_by_writer}
use Rattle.runs.proofs.cells.lands_in_one_pass.Goals as goal

pub returns : goal.returns
returns g c = record { ordered = lands_by_writer g.row.V.Denot; listed = lands_as_listed g.row.V.Denot }
