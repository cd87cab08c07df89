use Rattle.lines.proofs.Sayings.{passed, refused}
use Rattle.lines.proofs.Operands.{sources_none, sources_one, sources_unclosed, sources_second_none, sources_two_unclosed, sources_two}
use Rattle.lines.proofs.operation.sources.Goals as goal

pub returns-in_err-first : goal.returns-in_err-first
returns-in_err-first c = rw c.from_residual.ensures (sources_none _ _ c.in_err-first.ensures _)

pub returns-then-is_some : goal.returns-then-is_some
returns-then-is_some c = sources_one _ _ _ c.in_ok-first.ensures _ (passed _ _ _ _ c.if-is_some.ensures c.marks.ensures)

pub returns-in_err-marks : goal.returns-in_err-marks
returns-in_err-marks c = rw c.from_residual-in_err-marks.ensures (sources_unclosed _ _ _ c.in_ok-first.ensures _ (refused _ _ _ _ c.if-is_some.ensures c.marks.ensures) _ c.in_err-marks.ensures)

pub returns-in_err-second : goal.returns-in_err-second
returns-in_err-second c = rw c.from_residual-in_err-second.ensures (sources_second_none _ _ _ c.in_ok-first.ensures _ (refused _ _ _ _ c.if-is_some.ensures c.marks.ensures) _ _ c.in_ok-marks.ensures c.in_err-second.ensures _)

pub returns-in_err-marks-2 : goal.returns-in_err-marks-2
returns-in_err-marks-2 c = rw c.from_residual-in_err-marks-2.ensures (sources_two_unclosed _ _ _ c.in_ok-first.ensures _ (refused _ _ _ _ c.if-is_some.ensures c.marks.ensures) _ _ c.in_ok-marks.ensures _ c.in_ok-second.ensures _ c.in_err-marks-2.ensures)

pub returns : goal.returns
returns c = sources_two _ _ _ c.in_ok-first.ensures _ (refused _ _ _ _ c.if-is_some.ensures c.marks.ensures) _ _ c.in_ok-marks.ensures _ c.in_ok-second.ensures _ c.in_ok-marks-2.ensures
