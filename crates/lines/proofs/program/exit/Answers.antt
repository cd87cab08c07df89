use Rattle.lines.proofs.Worded.{exit_none, exit_if}
use Rattle.lines.proofs.program.exit.Goals as goal

pub returns-in_err-expect : goal.returns-in_err-expect
returns-in_err-expect c = rw c.from_residual.ensures (exit_none _ _ c.in_err-expect.ensures)

pub returns-in-If : goal.returns-in-If
returns-in-If c = exit_if _ _ _ (rw c.in-If.is at c.in_ok-expect.ensures) c.branch-reader.ensures
