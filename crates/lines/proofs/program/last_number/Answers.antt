use Rattle.lines.proofs.Sayings.{whole_none, none_some}
use Rattle.lines.proofs.Numerals.{number_read, number_last}
use Rattle.lines.proofs.program.last_number.Goals as goal

pub returns-in_err-number : goal.returns-in_err-number
returns-in_err-number c = whole_none _ _ _ _ c.from_residual.ensures (λ n short e. none_some n (number_read _ _ _ c.in_err-number.ensures n short e).0)

pub returns : goal.returns
returns c = rw c.then_some.ensures (number_last _ _ c.in_ok-number.number c.is_done.result c.is_done.ensures c.in_ok-number.ensures)
