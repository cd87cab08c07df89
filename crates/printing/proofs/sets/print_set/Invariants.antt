use Rattle.std.proofs.Common.{string_bytes}
use Rattle.printing.proofs.Found.{PrintedBelow}
use Rattle.printing.proofs.sets.print_set.Given as goal

abbrev pub invariant-loop-block : goal.invariant-loop-block
invariant-loop-block l = PrintedBelow l.blocks (string_bytes l.out) l.block
