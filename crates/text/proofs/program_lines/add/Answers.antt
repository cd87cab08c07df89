use Rattle.std.proofs.lemmas.Result.{err_from_is_err_and}
use Rattle.text.proofs.Adding.{not_added, too_large, then_told}
use Rattle.text.proofs.program_lines.add.Goals as goal

pub returns-in_err-number : goal.returns-in_err-number
returns-in_err-number c =
    let p = err_from_is_err_and c.from_residual.result c.from_residual.ensures.1 in
    rw (p.1, p.2) (not_added _ _ c.args.block c.args.position c.args.operation c.raw.result c.add.result _ c.if-not-has_slot.ensures c.raw.ensures.value c.add.ensures c.in_err-number.was)

pub returns-then-not-literals_held : goal.returns-then-not-literals_held
returns-then-not-literals_held c = too_large _ _ c.args.block c.args.position c.args.operation c.raw.result c.add.result c.in_ok-number.number c.if-not-has_slot.ensures c.raw.ensures.value c.add.ensures c.in_ok-number.was c.if-not-literals_held.ensures

pub returns : goal.returns
returns c = then_told _ _ _ c.args.block c.args.position c.args.operation c.raw.result c.add.result c.in_ok-number.number c.place.result c.if-not-has_slot.ensures c.raw.ensures.value c.add.ensures c.in_ok-number.was c.if-not-literals_held.ensures c.place.ensures
