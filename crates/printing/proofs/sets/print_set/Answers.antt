use Rattle.std.proofs.Common.{arith}
use Rattle.printing.specs.Printed.{contents_of}
use Rattle.printing.proofs.Found.{one_passed, one_printed, all_printed}
use Rattle.printing.proofs.sets.print_set.Goals as goal

pub loop-block-preserved-then-not-is_used : goal.loop-block-preserved-then-not-is_used
loop-block-preserved-then-not-is_used c = one_passed c.args.blocks.now _ c.loop-block.block (contents_of c.in-Some.contents) (omega arith) c.loop-block.invariant c.in-Some.ensures.1 c.if-not-is_used.ensures

pub loop-block-preserved : goal.loop-block-preserved
loop-block-preserved c = one_printed c.args.blocks.now _ _ c.loop-block.block (contents_of c.in-Some.contents) (omega arith) c.loop-block.invariant c.in-Some.ensures.1 c.if-not-is_used.ensures c.in_ok-write.ensures

pub returns : goal.returns
returns c = all_printed c.args.blocks.now _ c.loop-block.block (omega arith) c.loop-block.invariant
