-- The blocks as lists of operations with their exits. Assumes nothing.
use Rattle.std.specs.Prelude.{◌≡◌, ℕ, false, List, map, slice_index_or}
use Rattle.blocks.specs.declared.description.Slot.{Slot}
use Rattle.blocks.specs.declared.block.Block.{Block}
use Rattle.blocks.specs.Entries.{AllFit}
use Rattle.blocks.specs.Exits.{goes_on}
use Rattle.blocks.specs.Model.{Body, empty}

abbrev pub body_of : Block → Body
body_of b = record { entries = b.entries.items; exit = b.exit }

abbrev pub bodies_of : List Block → List Body
bodies_of bs = map body_of bs

-- every operation of every block that is placed stands in a slot that takes its class
abbrev pub BlocksFit : List Slot → List Block → Type 0
BlocksFit slots bs = (n : ℕ) → AllFit slots (slice_index_or (bodies_of bs) n empty).entries

-- block 15 leads to no block behind
abbrev pub LastEnds : List Block → Type 0
LastEnds bs = goes_on (slice_index_or (bodies_of bs) 15 empty).exit ≡ false
