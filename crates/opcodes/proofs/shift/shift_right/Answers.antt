use Rattle.std.proofs.Common.{arith}
use Rattle.opcodes.proofs.Shifts.{right_out}
use Rattle.opcodes.proofs.shift.shift_right.Goals as goal

pub returns-else-count-lt32 : goal.returns-else-count-lt32
returns-else-count-lt32 c = right_out _ _ (omega arith) (omega arith)
