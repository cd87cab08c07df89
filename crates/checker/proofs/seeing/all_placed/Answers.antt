use Rattle.std.proofs.Common.{◌≡◌, None, Err, ◌∙◌, arith, rules}
use Rattle.std.proofs.lemmas.List.{length-set}
use Rattle.operations.specs.declared.refusal.Refusal.TheVariants.{Unplaced}
use Rattle.checker.specs.Seen.{Sees}
use Rattle.checker.proofs.Sight.{placed_here, seen_more, lowest_is, none_unplaced, refused_unplaced}
use Rattle.checker.proofs.seeing.all_placed.Goals as goal

pub returns-in_err-all : goal.returns-in_err-all
returns-in_err-all c =
    let r : c.from_residual.result ≡ Err (Unplaced c.loop-i.i) = search rules in
    let here : c.index-entries-i.result.position ≡ None = search rules in
    refused_unplaced _ c.args.entries.now _ c.loop-i.i r (lowest_is _ c.loop-i.i (omega arith) c.loop-i.invariant.1.placed
    (placed_here _ c.loop-i.i c.index-entries-i.result (omega arith) c.index-entries-i.is ∙ here))

pub loop-i-preserved : goal.loop-i-preserved
loop-i-preserved c =
    let sees : Sees c.args.description.now c.index-entries-i.result c.in_ok-all.field-0 = search rules in (
      length-set c.loop-i.all c.loop-i.i c.in_ok-all.field-0 ∙ c.loop-i.invariant.0,
      seen_more _ _ c.loop-i.i c.loop-i.all c.index-entries-i.result c.in_ok-all.field-0 (omega arith) (omega arith) c.index-entries-i.is sees c.loop-i.invariant.1,
    )

pub returns : goal.returns
returns c = (
  c.loop-i.invariant.0,
  none_unplaced _ (λ m l. c.loop-i.invariant.1.placed m (omega arith)),
  record { placed = λ m l. c.loop-i.invariant.1.placed m (omega arith); each = λ m o l. c.loop-i.invariant.1.each m o (omega arith) },
)
