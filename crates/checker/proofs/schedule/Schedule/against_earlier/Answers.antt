use Rattle.std.proofs.Common.{refl, IfSome, rules}
use Rattle.operations.specs.declared.refusal.Violation.{Violation}
use Rattle.checker.specs.Pairs.{KeptAt, Found}
use Rattle.checker.proofs.Pairwise.{kept_from_all}
use Rattle.checker.proofs.Searches.{none_below}
use Rattle.checker.proofs.schedule.Schedule.against_earlier.Goals as goal

pub returns : goal.returns
returns c =
    let ps = c.args.self.placed.now in
    let j = c.args.j in
    let some : IfSome c.find_map.result (λ v. Found c.args.self.last ps v) = search rules in
    kept_from_all {C = Violation} ps j c.find_map.result (λ v. Found c.args.self.last ps v) (none_below _ _ _ j _ (λ i. KeptAt ps i j) (λ v. Found c.args.self.last ps v) _ refl refl c.find_map.ensures.runs (search rules) (λ x h. search rules) some)
