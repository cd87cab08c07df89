use Rattle.lines.specs.Items.{left}
use Rattle.lines.proofs.Sayings.{Passing}
use Rattle.lines.proofs.expect.marks.Given as goal

abbrev pub invariant-loop-next : goal.invariant-loop-next
invariant-loop-next l = Passing l.expected l.next-index (left l.initial.reader) (left l.reader)
