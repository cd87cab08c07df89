use Rattle.std.proofs.Common.{min, ap, ◌∙◌}
use Rattle.text.proofs.Placing.{placed_told}
use Rattle.text.proofs.program_lines.place.Goals as goal

pub returns-in-Some : goal.returns-in-Some
returns-in-Some c =
    let p = c.in-Some.position in
    placed_told _ _ c.args.block c.args.operation c.args.position p _ _ c.place.result c.in-Some.is
    (c.min.ensures ∙ ap (min p.cycle) c.from.ensures) (c.min-in-Some.ensures ∙ ap (min p.slot) c.from-in-Some.ensures) c.place.ensures
