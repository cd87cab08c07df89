use Rattle.blocks.proofs.Positions.{position_there}
use Rattle.blocks.proofs.position.Position.at.Goals as goal

pub returns : goal.returns
returns c = position_there _ _ _ _
