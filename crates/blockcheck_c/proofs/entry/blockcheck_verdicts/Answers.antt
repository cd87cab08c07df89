use Rattle.std.proofs.Common.{vec_items, ap, ◌∙◌, arith}
use Rattle.blockcheck_c.specs.Answers.{at_front}
use Rattle.blockcheck_c.proofs.Answering.{at_fault, too_short, all_told}
use Rattle.blockcheck_c.proofs.entry.blockcheck_verdicts.Goals as goal

pub returns-in-Err : goal.returns-in-Err
returns-in-Err c = at_fault _ _ c.args.room.now c.in-Err.fault _ c.in-Err.ensures c.number.ensures

pub returns-then-room-len : goal.returns-then-room-len
returns-then-room-len c = too_short _ _ c.args.room.now (vec_items c.in-Ok.numbers) _ c.in-Ok.ensures (omega (arith, c.in-Ok.numbers.ok.0, c.len.ensures)) (c.from.ensures ∙ c.number-then-room-len.ensures)

pub returns : goal.returns
returns c =
    all_told _ _ c.args.room.now (vec_items c.in-Ok.numbers) _ c.in-Ok.ensures (omega (arith, c.in-Ok.numbers.ok.0, c.len.ensures, c.if-room-len.false))
    (c.copy.ensures ∙ ap (λ n. at_front n c.args.room.now) c.as_slice.ensures.value)
