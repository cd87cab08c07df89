use Rattle.std.proofs.Common.{arith, lt-ltb}
use Rattle.registers.proofs.Numbered.{number_there}
use Rattle.registers.proofs.number.NumberBelow.new.Goals as goal

pub returns-then-number : goal.returns-then-number
returns-then-number g c = number_there _ _ (lt-ltb _ _ (omega arith))
