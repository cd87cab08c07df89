use Rattle.runs.proofs.Ends.{lowest_of_outcomes}
use Rattle.runs.proofs.Finish.{run_finishes, step_counts}
use Rattle.runs.proofs.schedules.runs_in_any_schedule.Goals as goal

pub returns : goal.returns
returns g c = record {
  finishes = run_finishes g.row.V.Denot g.row.M.Denot g.row.F.Denot;
  counts = step_counts g.row.V.Denot g.row.M.Denot g.row.F.Denot;
  lowest = lowest_of_outcomes g.row.V.Denot g.row.M.Denot g.row.F.Denot;
}
