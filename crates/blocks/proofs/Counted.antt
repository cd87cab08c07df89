-- How many blocks there are. Assumes nothing.
use Rattle.std.proofs.Common.{◌≡◌, length, arith}
use Rattle.std.proofs.lemmas.List.{length-map}
use Rattle.blocks.specs.declared.blocks.Blocks.{Blocks}
use Rattle.blocks.specs.View.{body_of}
use Rattle.blocks.specs.Whole.{state_of}

pub sixteen : (B : Blocks) → length (state_of B).bodies ≡ 16
sixteen B = omega (arith, B.blocks.ok.0, B.sixteen, length-map B.blocks.items body_of)
