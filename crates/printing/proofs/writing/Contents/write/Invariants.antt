use Rattle.std.proofs.Common.{take, string_bytes}
use Rattle.printing.specs.Written.{entry_line}
use Rattle.printing.specs.Sets.{line_ended}
use Rattle.printing.specs.Printed.{Held}
use Rattle.printing.proofs.Loops.{Sofar}
use Rattle.printing.proofs.writing.Contents.write.Given as goal

abbrev pub invariant-loop-entry : goal.invariant-loop-entry
invariant-loop-entry l = Sofar (λ e. line_ended (entry_line e)) Held (string_bytes l.initial.out) (string_bytes l.out) (take l.entry-index l.self.entries.now)
