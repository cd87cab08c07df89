use Rattle.std.proofs.Common.{◌≡◌, ◌<◌, Some, Ok, sym, refl, ap, ◌∙◌, rules, arith}
use Rattle.std.proofs.lemmas.Grind.{common_steps}
use Rattle.blocks.specs.Steps.{Did}
use Rattle.blocks.specs.Exits.{exit_for}
use Rattle.blocks.specs.Model.{Body, leave_by, exit_step}
use Rattle.blocks.specs.View.{body_of}
use Rattle.blocks.proofs.Moves.{done}
use Rattle.blocks.proofs.Keeps.{exit_keeps}
use Rattle.blocks.proofs.Within.{within, within_good}
use Rattle.blocks.proofs.blocks.Blocks.exit.Goals as goal

pub invariant_of-self-2 : goal.invariant_of-self-2
invariant_of-self-2 c =
    let step = (λ (b : Body). exit_step c.args.block b c.args.raw) in
    let x = body_of c.in_ok-found.found.now in
    let typed : exit_for c.args.block c.args.raw ≡ Some c.in_ok-ok_or.field-0 = sym c.typed.ensures ∙ c.in_ok-ok_or.ensures.ok_part in
    let did : Did x (body_of c.leave_by.new.self) (Ok tt) (step x) = done _ _ _ _ _ (ap (leave_by x) typed) refl c.leave_by.ensures in
    let below : c.args.block < 16 = grind (arith, common_steps) in
    let good = within_good c.args.self.now _ _ c.from-i.ensures c.in_ok-found.found.now _ _ step below (search rules) did (λ b g. exit_keeps _ _ b g c.args.raw) in
    record { sixteen = c.args.self.now.sixteen; fit = good.0; last = good.1 }

pub returns : goal.returns
returns c =
    let step = (λ (b : Body). exit_step c.args.block b c.args.raw) in
    let x = body_of c.in_ok-found.found.now in
    let typed : exit_for c.args.block c.args.raw ≡ Some c.in_ok-ok_or.field-0 = sym c.typed.ensures ∙ c.in_ok-ok_or.ensures.ok_part in
    let did : Did x (body_of c.leave_by.new.self) (Ok tt) (step x) = done _ _ _ _ _ (ap (leave_by x) typed) refl c.leave_by.ensures in
    let below : c.args.block < 16 = grind (arith, common_steps) in
    within c.args.self.now _ _ c.from-i.ensures c.in_ok-found.found.now _ _ step below (search rules) did
