use Rattle.std.proofs.Common.{sym, ◌∙◌}
use Rattle.text.proofs.Cuts.{cut_line, last_line}
use Rattle.text.proofs.cutting.cut_line.Goals as goal

pub returns-in-Some : goal.returns-in-Some
returns-in-Some c = cut_line c.args.text.now c.in-Some.i (sym c.newline.ensures ∙ c.in-Some.is)

pub returns-in-None : goal.returns-in-None
returns-in-None c = last_line c.args.text.now (sym c.newline.ensures ∙ c.in-None.is) (sym c.if-is_empty.ensures)
