use Rattle.runs.proofs.CellLists.{cells_as_written, cells_end_as_written, cells_run, cells_step}
use Rattle.runs.proofs.cells.cells_run_alike.Goals as goal

pub returns : goal.returns
returns g c = record {
  step = cells_step g.row.V.Denot g.row.M.Denot g.row.F.Denot;
  run = cells_run g.row.V.Denot g.row.M.Denot g.row.F.Denot;
  written = cells_as_written g.row.V.Denot g.row.M.Denot g.row.F.Denot;
  ends = cells_end_as_written g.row.V.Denot g.row.M.Denot g.row.F.Denot;
}
