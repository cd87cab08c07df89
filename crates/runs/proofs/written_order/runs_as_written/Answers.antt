use Rattle.runs.proofs.Ends.{ends_as_written, fault_as_written, reads_as_written, runs_as_written_lem}
use Rattle.runs.proofs.written_order.runs_as_written.Goals as goal

pub returns : goal.returns
returns g c = record {
  reads = reads_as_written g.row.V.Denot g.row.M.Denot g.row.F.Denot;
  until = runs_as_written_lem g.row.V.Denot g.row.M.Denot g.row.F.Denot;
  ends = ends_as_written g.row.V.Denot g.row.M.Denot g.row.F.Denot;
  fault = fault_as_written g.row.V.Denot g.row.M.Denot g.row.F.Denot;
}
