use Rattle.std.proofs.Common.{arith}
use Rattle.opcodes.proofs.Shifts.{left_out}
use Rattle.opcodes.proofs.shift.shift_left.Goals as goal

pub returns-else-count-lt32 : goal.returns-else-count-lt32
returns-else-count-lt32 c = left_out _ _ (omega arith)
