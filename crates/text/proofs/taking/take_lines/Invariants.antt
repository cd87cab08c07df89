use Rattle.std.proofs.Common.{length}
use Rattle.text.specs.Turns.{Leads}
use Rattle.text.proofs.taking.take_lines.Given as goal

abbrev pub invariant-loop-line : goal.invariant-loop-line
invariant-loop-line g l = Leads g.R.ByLines.Line g.R.ByLines.step (g.R.ByLines.view l.initial.reading) l.text (g.R.ByLines.view l.reading) l.rest

abbrev pub decreases-loop-line : goal.decreases-loop-line
decreases-loop-line g l = length l.rest
