use Rattle.blocks.proofs.Makes.{bounds_there}
use Rattle.blocks.proofs.description.Bounds.new.Goals as goal

pub returns : goal.returns
returns c = bounds_there _
