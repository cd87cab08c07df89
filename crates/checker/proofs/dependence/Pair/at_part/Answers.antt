use Rattle.std.proofs.Common.{MatchOption, Some, sym, ap, ◌∙◌, subst}
use Rattle.checker.specs.Pairs.{PartKept, Breaks}
use Rattle.checker.proofs.Parts.{part_kept}
use Rattle.checker.proofs.dependence.Pair.at_part.Goals as goal

pub returns-in_err-at_register-in-Register : goal.returns-in_err-at_register-in-Register
returns-in_err-at_register-in-Register c =
    let a = c.args.self.earlier.now in
    let b = c.args.self.later.now in
    let kept : PartKept c.args.part a b = part_kept c.args.part c.in-Register.x a b (c.in_ok-x.was ∙ ap Some c.in-Register.is) c.in_err-at_register-in-Register.ensures in
    subst (λ r. MatchOption r (PartKept c.args.part a b) (λ k. Breaks k.dependence k.place a b)) (sym c.from_residual-in_err-at_register-in-Register.ensures) kept
