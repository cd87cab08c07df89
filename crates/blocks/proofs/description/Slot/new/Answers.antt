use Rattle.blocks.proofs.Makes.{slot_there}
use Rattle.blocks.proofs.description.Slot.new.Goals as goal

pub returns-then-some : goal.returns-then-some
returns-then-some c = slot_there _ _ _ _
