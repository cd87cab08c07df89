use Rattle.std.proofs.Common.{is_some, ap, ◌∙◌, rules, tests}
use Rattle.std.proofs.lemmas.Iterator.{YieldsList-from_slice}
use Rattle.memories.proofs.Totals.{total_from_try_fold}
use Rattle.memories.proofs.Ordered.{leaves, leaves_all}
use Rattle.memories.proofs.validity.has_room.Goals as goal

pub returns : goal.returns
returns c =
    let ss = c.args.sections.now in
    c.is_some.ensures
    ∙ ap is_some (total_from_try_fold _ _ _ leaves _ (λ b x r q k. search (rules, tests)) c.args.room c.try_fold.result (YieldsList-from_slice ss cc) _ c.try_fold.ensures.ran)
    ∙ leaves_all ss c.args.room
