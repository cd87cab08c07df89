use Rattle.std.proofs.Common.{rules}
use Rattle.std.proofs.iter.runs.Sources.{ranges}
use Rattle.blocks.proofs.Within.{bodies_empty}
use Rattle.blocks.proofs.calls.empty_blocks.Goals as goal

pub returns : goal.returns
returns c = search (rules, ranges, bodies_empty)
