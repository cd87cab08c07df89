-- The whole set of blocks. Assumes nothing.
use Rattle.blocks.specs.declared.blocks.Blocks.{Blocks}
use Rattle.blocks.specs.Calls.{State}
use Rattle.blocks.specs.View.{bodies_of}

abbrev pub state_of : Blocks → State
state_of b = record { description = b.description; bodies = bodies_of b.blocks.items }
