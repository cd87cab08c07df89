use Rattle.runs.proofs.Marking.{marks_by_landing, marks_by_position}
use Rattle.runs.proofs.marks.marks_in_any_schedule.Goals as goal

pub returns : goal.returns
returns c = record { registers = marks_by_landing; memory = marks_by_position }
