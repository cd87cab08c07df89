use Rattle.lines.proofs.Sayings.{passed}
use Rattle.lines.proofs.Numerals.{unplaced_read}
use Rattle.lines.proofs.program.position.Goals as goal

pub returns-then-is_some : goal.returns-then-is_some
returns-then-is_some c = unplaced_read _ _ (passed _ _ _ _ c.if-is_some.ensures c.marks.ensures)
