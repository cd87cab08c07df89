-- What has been read of the two texts. Assumes nothing.
use Rattle.std.specs.Prelude.{[], ◌∷◌}
use Rattle.blocks.specs.Machine.{slots_of}
use Rattle.blocks.specs.Whole.{state_of}
use Rattle.text.specs.declared.loading.Loading.{Loading}
use Rattle.text.specs.declared.part.Part.{Part}
use Rattle.text.specs.declared.part.Part.TheVariants.{Nothing, Slots, Integer, Load, All}
use Rattle.text.specs.Describing.{Described, nothing}
use Rattle.text.specs.Programs.{Reading}

-- the lines that have been read
abbrev pub described_of : Part → Described
described_of Nothing = nothing
described_of (Slots s) = record { slots = slots_of s; bounds = [] }
described_of (Integer s i) = record { slots = slots_of s; bounds = i ∷ [] }
described_of (Load s i l) = record { slots = slots_of s; bounds = i ∷ l ∷ [] }
described_of (All d) = record { slots = slots_of d.slots; bounds = d.integer ∷ d.load ∷ d.compare ∷ [] }

-- the blocks so far, and where in the program we are
abbrev pub reading_of : Loading → Reading
reading_of l = record { state = state_of l.blocks; stage = l.stage }
