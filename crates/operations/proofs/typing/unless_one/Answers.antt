use Rattle.operations.proofs.Apart.{targets_there}
use Rattle.operations.proofs.typing.unless_one.Goals as goal

pub returns-else-clash : goal.returns-else-clash
returns-else-clash c = targets_there _ _ _ _ _
