use Rattle.std.proofs.Common.{◌≡◌, Some, MatchOption, rules}
use Rattle.std.specs.Bool.{then_some}
use Rattle.std.specs.List.{All}
use Rattle.operations.specs.declared.refusal.Dependence.TheVariants.{Memory}
use Rattle.registers.specs.declared.register.Place.TheVariants as place
use Rattle.checker.specs.Pairs.{broken, PartKept, Breaks}
use Rattle.checker.proofs.Parts.{memory_break, found_or_memory}
use Rattle.checker.proofs.dependence.Pair.first_broken.Goals as goal

pub returns : goal.returns
returns c =
    let a = c.args.self.earlier.now in
    let b = c.args.self.later.now in
    let f : MatchOption c.find_map-found.result (All (λ o. PartKept o a b) c.parts-parts.result) (λ k. Breaks k.dependence k.place a b) = search rules in
    let g : MatchOption c.find_map-found.result (c.or.result ≡ then_some (broken Memory place.Memory a b) memory_break) (λ k. c.or.result ≡ Some k) = search rules in
    found_or_memory a b _ _ _ c.parts-parts.ensures f g
