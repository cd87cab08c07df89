use Rattle.std.proofs.Common.{length, refl, IfSome, rules}
use Rattle.operations.specs.declared.refusal.Violation.{Violation}
use Rattle.checker.specs.Pairs.{KeptFrom, Found}
use Rattle.checker.proofs.Pairwise.{all_kept}
use Rattle.checker.proofs.Searches.{none_below}
use Rattle.checker.proofs.schedule.Schedule.first_broken.Goals as goal

pub returns : goal.returns
returns c =
    let ps = c.args.self.placed.now in
    let some : IfSome c.find_map.result (λ v. Found c.args.self.last ps v) = search rules in
    all_kept {C = Violation} ps (length ps) c.find_map.result (λ v. Found c.args.self.last ps v) (none_below _ _ _ (length ps) _ (KeptFrom ps) (λ v. Found c.args.self.last ps v) _ refl refl c.find_map.ensures.runs (search rules) (λ x h. search rules) some)
