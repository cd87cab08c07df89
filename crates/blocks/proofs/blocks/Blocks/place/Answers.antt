use Rattle.std.proofs.Common.{◌<◌, rules, arith}
use Rattle.std.proofs.lemmas.Grind.{common_steps}
use Rattle.blocks.specs.Machine.{slots_of}
use Rattle.blocks.specs.Model.{Body, place_step}
use Rattle.blocks.proofs.Keeps.{place_keeps}
use Rattle.blocks.proofs.Within.{within, within_good}
use Rattle.blocks.proofs.blocks.Blocks.place.Goals as goal

pub invariant_of-self-2 : goal.invariant_of-self-2
invariant_of-self-2 c =
    let step = (λ (b : Body). place_step (slots_of c.args.self.now.description.slots) b c.args.operation c.args.cycle c.args.slot) in
    let below : c.args.block < 16 = grind (arith, common_steps) in
    let good = within_good c.args.self.now _ _ c.from-i.ensures c.in_ok-found.found.now _ _ step below (search rules) c.place.ensures (λ b g. place_keeps _ _ b g c.args.operation c.args.cycle c.args.slot) in
    record { sixteen = c.args.self.now.sixteen; fit = good.0; last = good.1 }

pub returns : goal.returns
returns c =
    let step = (λ (b : Body). place_step (slots_of c.args.self.now.description.slots) b c.args.operation c.args.cycle c.args.slot) in
    let below : c.args.block < 16 = grind (arith, common_steps) in
    within c.args.self.now _ _ c.from-i.ensures c.in_ok-found.found.now _ _ step below (search rules) c.place.ensures
