-- The machine's description, line by line. Assumes nothing.
use Rattle.std.specs.Prelude.{◌≡◌, ℕ, ◌<◌, cond, ◌&&◌, List, [], ◌∷◌, ◌++◌, length, Some, None, Ok, Err, Option, Result, ◌==◌, nat_lt}
use Rattle.std.specs.Option.{ok_or}
use Rattle.operations.specs.declared.refusal.Refusal.{Refusal}
use Rattle.operations.specs.declared.refusal.Refusal.TheVariants.{Unreadable, NoSuch}
use Rattle.blocks.specs.declared.description.Slot.{Slot}
use Rattle.blocks.specs.declared.description.Bounds.{Bounds}
use Rattle.blocks.specs.declared.description.Description.{Description}
use Rattle.blocks.specs.Machine.{slots_of, slot_taking, bounded}
use Rattle.lines.specs.declared.written.Classes.{Classes}
use Rattle.lines.specs.declared.written.WrittenBounds.{WrittenBounds}
use Rattle.lines.specs.declared.written.DescriptionLine as line
use Rattle.lines.specs.declared.written.DescriptionLine.{DescriptionLine}

-- what has been read: the slots, and the bounds of integer, load and compare, in this order
pub record Described : Type 0 where
  pub slots : List Slot
  pub bounds : List Bounds

abbrev pub nothing : Described
nothing = record { slots = []; bounds = [] }

abbrev pub with_slot : Described → Option Slot → Result Described Refusal
with_slot d None = Err Unreadable
with_slot d (Some s) = Ok (record { slots = d.slots ++ s ∷ []; bounds = d.bounds })

abbrev pub with_bounds : Described → Result Bounds Refusal → Result Described Refusal
with_bounds d (Ok b) = Ok (record { slots = d.slots; bounds = d.bounds ++ b ∷ [] })
with_bounds d (Err e) = Err e

-- a slot that comes behind k others
abbrev pub slot_numbered : ℕ → ℕ → Classes → Result Slot Refusal
slot_numbered k n c = cond (n == k) (cond (nat_lt n 8) (ok_or (slot_taking c.integer c.memory c.compare) Unreadable) (Err NoSuch)) (Err Unreadable)

-- slots come first, in the order of their numbers
abbrev pub slot_line : Described → ℕ → Classes → Result Described Refusal
slot_line d n c =
    cond (length d.bounds == 0 && n == length d.slots)
    (cond (nat_lt n 8)
    (with_slot d (slot_taking c.integer c.memory c.compare))
    (Err NoSuch)) (Err Unreadable)

-- behind at least one slot, and behind k other bounds
abbrev pub bounds_line : ℕ → Described → WrittenBounds → Result Described Refusal
bounds_line k d b = cond (nat_lt 0 (length d.slots) && length d.bounds == k) (with_bounds d (bounded b.shortest b.longest)) (Err Unreadable)

abbrev pub description_step : Described → DescriptionLine → Result Described Refusal
description_step d (line.TheVariants.Slot n c) = slot_line d n c
description_step d (line.TheVariants.Integer b) = bounds_line 0 d b
description_step d (line.TheVariants.Load b) = bounds_line 1 d b
description_step d (line.TheVariants.Compare b) = bounds_line 2 d b

-- all has been read, and it is the description x
pub record Complete (d : Described) (x : Description) : Type 0 where
  pub slots : slots_of x.slots ≡ d.slots
  pub bounds : (x.integer ∷ x.load ∷ x.compare ∷ []) ≡ d.bounds

-- a line is missing
abbrev pub Incomplete : Described → Type 0
Incomplete d = length d.bounds < 3
