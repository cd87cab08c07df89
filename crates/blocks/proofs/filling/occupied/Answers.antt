use Rattle.std.proofs.Common.{◌∙◌, rules, tests}
use Rattle.std.proofs.lemmas.Iterator.{YieldsList-from_slice}
use Rattle.std.proofs.lemmas.Iterator.Consumers.{YieldsList-from_enumerate}
use Rattle.std.proofs.lemmas.Iterator.Search.{any_from_yields_List}
use Rattle.blocks.proofs.Positions.{other_at, any_other}
use Rattle.blocks.proofs.filling.occupied.Goals as goal

pub returns : goal.returns
returns c =
    let es = c.args.entries.now in
    any_from_yields_List (other_at c.args.own c.args.position) _ _ _ c.any.ensures.ran (YieldsList-from_enumerate (YieldsList-from_slice es cc) cc) (λ x b q k. search (rules, tests))
    ∙ any_other es c.args.own c.args.position
