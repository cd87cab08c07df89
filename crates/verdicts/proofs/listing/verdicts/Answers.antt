use Rattle.std.proofs.Common.{◌+◌, sym, subst, arith}
use Rattle.std.proofs.lemmas.Option.{none-some}
use Rattle.blocks.proofs.Counted.{sixteen}
use Rattle.checker.specs.Checks.{Checked}
use Rattle.blocks.specs.Whole.{state_of}
use Rattle.verdicts.proofs.Filling.{ToldBelow, below_more, stands}
use Rattle.verdicts.proofs.listing.verdicts.Goals as goal

pub loop-block-preserved : goal.loop-block-preserved
loop-block-preserved c =
    let s = state_of c.args.blocks.now in
    subst (λ vs. ToldBelow s (c.loop-block.block + 1) vs) (sym c.in_ok-push.ensures.items)
    (below_more s c.loop-block.block _ _ (omega arith) (sixteen c.args.blocks.now) (sym c.if-not-is_filled.ensures) (subst (λ a. Checked s c.loop-block.block a) c.in-Some.ensures.sound c.check.ensures) c.loop-block.invariant)

pub loop-block-preserved-in_default : goal.loop-block-preserved-in_default
loop-block-preserved-in_default c =
    let s = state_of c.args.blocks.now in
    let x = stands s c.loop-block.block _ (omega arith) c.check.ensures in
    absurd (none-some x.0 (c.in_default.ensures.complete x.0 x.1))
