use Rattle.std.proofs.Common.{ap₂, ◌∙◌}
use Rattle.blocks.specs.Machine.{bounded}
use Rattle.text.proofs.describing.bounds.Goals as goal

pub returns : goal.returns
returns c = c.new.ensures ∙ ap₂ bounded c.in_ok-bound.ensures c.in_ok-bound-2.ensures
