use Rattle.std.proofs.Common.{vec_items}
use Rattle.blocks.specs.Whole.{state_of}
use Rattle.verdicts.proofs.Filling.{ToldBelow}
use Rattle.verdicts.proofs.listing.verdicts.Given as goal

abbrev pub invariant-loop-block : goal.invariant-loop-block
invariant-loop-block l = ToldBelow (state_of l.blocks) l.block (vec_items l.all)
