use Rattle.std.proofs.Common.{◌≡◌, MatchOption, arith, rules}
use Rattle.std.proofs.lemmas.List.{length-take-le}
use Rattle.checker.specs.declared.verdict.Verdict.TheVariants.{Kept, Violated}
use Rattle.checker.proofs.Rightness.{judged_by}
use Rattle.checker.proofs.checking.judge.Goals as goal

pub returns : goal.returns
returns c =
    let ok = c.in_ok-all.ensures in
    let d = c.args.description.now in
    let cut = length-take-le d.slots.count d.slots.slots (omega (arith, d.slots.few, d.slots.whole)) in
    let verdict : MatchOption c.first_broken-found.result (c.map_or.result ≡ Kept) (λ w. c.map_or.result ≡ Violated w) = search rules in
    judged_by d c.args.entries.now c.in_ok-all.all ok.0 c.requires ok.2 ok.1 _ (omega arith) _ (omega (arith, cut, d.slots.one)) _ _ c.first_broken-found.ensures verdict
