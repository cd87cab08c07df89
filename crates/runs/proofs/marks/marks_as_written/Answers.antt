use Rattle.runs.proofs.Marking.{marks_as_written_lem}
use Rattle.runs.proofs.marks.marks_as_written.Goals as goal

pub returns : goal.returns
returns c = marks_as_written_lem
