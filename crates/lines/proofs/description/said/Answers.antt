use Rattle.lines.proofs.Described.{line_none, line_slot}
use Rattle.lines.proofs.description.said.Goals as goal

pub returns-in_err-expect : goal.returns-in_err-expect
returns-in_err-expect c = rw c.from_residual.ensures (line_none _ _ c.in_err-expect.ensures)

pub returns-in-Slot : goal.returns-in-Slot
returns-in-Slot c = line_slot _ _ _ (rw c.in-Slot.is at c.in_ok-expect.ensures) c.slot.ensures
