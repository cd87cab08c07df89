use Rattle.printing.specs.Printed.{contents_of}
use Rattle.printing.proofs.Found.{alone_printed}
use Rattle.printing.proofs.sets.print_block.Goals as goal

pub returns : goal.returns
returns c = alone_printed c.args.blocks.now c.args.block (contents_of c.in-Some.contents) c.in-Some.ensures.0 c.in-Some.ensures.1 _ _ c.new-out.ensures.bytes c.in_ok-write.ensures
