use Rattle.lines.specs.Marks.{mark_text}
use Rattle.lines.proofs.Founds.{same_begins}
use Rattle.lines.proofs.Beginnings.{table_begins}
use Rattle.lines.proofs.MarkTexts.{marks, each_mark}
use Rattle.lines.proofs.marks.mark.Goals as goal

pub returns : goal.returns
returns c = same_begins _ _ _ (λ m rest h. record { short = tt; whole = h; ends = tt }) (λ m rest h. h.whole) (table_begins mark_text marks each_mark _ _ c.begins.ensures)
