use Rattle.std.proofs.Common.{◌≡◌, [], true, false, rules}
use Rattle.std.proofs.lemmas.Bool.{false≢true}
use Rattle.lines.specs.Items.{left}
use Rattle.lines.specs.Written.{always}
use Rattle.lines.proofs.Operands.{guard_last}
use Rattle.lines.proofs.operation.guard.Goals as goal
use Rattle.lines.proofs.operation.guard.Goals.{then-is_done-2, else-is_done-2}

pub returns : goal.returns
returns c =
    let is : c.if-is_done-2.then_some ≡ true → (left c.expect.new.reader ≡ []) × (always c.in_ok-name.name ≡ false) = elim c.if-is_done-2.branch [ then-is_done-2 w ↦ search rules | else-is_done-2 w ↦ search rules ] in
    let back : left c.expect.new.reader ≡ [] → always c.in_ok-name.name ≡ false → c.if-is_done-2.then_some ≡ true = elim c.if-is_done-2.branch [ then-is_done-2 w ↦ search rules | else-is_done-2 w ↦ search rules ] in
    rw c.then_some.ensures (guard_last _ _ _ c.in_ok-name.name c.if-is_done-2.then_some (λ z. false≢true (c.if-is_done.ensures.1 z)) c.in_ok-marks.ensures c.in_ok-name.ensures is back)
