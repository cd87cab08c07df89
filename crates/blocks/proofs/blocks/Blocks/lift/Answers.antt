use Rattle.std.proofs.Common.{◌<◌, rules, arith}
use Rattle.std.proofs.lemmas.Grind.{common_steps}
use Rattle.blocks.specs.Model.{Body, lift_step}
use Rattle.blocks.proofs.Keeps.{lift_keeps}
use Rattle.blocks.proofs.Within.{within, within_good}
use Rattle.blocks.proofs.blocks.Blocks.lift.Goals as goal

pub invariant_of-self-2 : goal.invariant_of-self-2
invariant_of-self-2 c =
    let step = (λ (b : Body). lift_step b c.args.operation) in
    let below : c.args.block < 16 = grind (arith, common_steps) in
    let good = within_good c.args.self.now _ _ c.from-i.ensures c.in_ok-found.found.now _ _ step below (search rules) c.lift.ensures (λ b g. lift_keeps _ _ b g c.args.operation) in
    record { sixteen = c.args.self.now.sixteen; fit = good.0; last = good.1 }

pub returns : goal.returns
returns c =
    let step = (λ (b : Body). lift_step b c.args.operation) in
    let below : c.args.block < 16 = grind (arith, common_steps) in
    within c.args.self.now _ _ c.from-i.ensures c.in_ok-found.found.now _ _ step below (search rules) c.lift.ensures
