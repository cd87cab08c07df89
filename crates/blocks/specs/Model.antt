-- What the calls do to a block. Assumes nothing.
use Rattle.std.specs.Prelude.{ℕ, Bool, cond, ◌&&◌, List, [], ◌∷◌, ◌++◌, length, Some, None, Ok, Err, Option, Result, nat_lt}
use Rattle.operations.specs.declared.operation.Operation.{Operation}
use Rattle.operations.specs.declared.raw.RawOperation.{RawOperation}
use Rattle.operations.specs.declared.refusal.Refusal.{Refusal}
use Rattle.operations.specs.declared.refusal.Refusal.TheVariants.{NoSuch, BlockFull, BeyondLimit, ClassNotTaken, Occupied, Unplaced}
use Rattle.operations.specs.Refusals.{number_of}
use Rattle.operations.specs.Typing.{names_exist, typed_of}
use Rattle.blocks.specs.declared.description.Slot.{Slot}
use Rattle.blocks.specs.declared.position.Position.{Position}
use Rattle.blocks.specs.declared.position.Entry.{Entry}
use Rattle.blocks.specs.declared.exit.Exit.{Exit}
use Rattle.blocks.specs.declared.exit.Exit.TheVariants as exit
use Rattle.blocks.specs.declared.exit.RawExit.{RawExit}
use Rattle.blocks.specs.Steps.{Outcome}
use Rattle.blocks.specs.Machine.{takes_class}
use Rattle.blocks.specs.Exits.{exit_for}
use Rattle.blocks.specs.Entries.{position_at, placed, occupied, class_at, put}

-- a block: its operations in written order, and its exit
pub record Body : Type 0 where
  pub entries : List Entry
  pub exit : Exit

abbrev pub empty : Body
empty = record { entries = []; exit = exit.Halt }

abbrev pub with_entries : Body → List Entry → Body
with_entries b es = record { entries = es; exit = b.exit }

abbrev pub with_exit : Body → Exit → Body
with_exit b x = record { entries = b.entries; exit = x }

abbrev pub unplaced : Operation → Entry
unplaced x = record { operation = x; position = None }

-- the operation goes behind the others, and its number is the answer
abbrev pub append : Body → Result Operation Refusal → Outcome ℕ Body
append b (Ok x) = Ok (length b.entries, with_entries b (b.entries ++ unplaced x ∷ []))
append b (Err e) = Err e

-- of a refusal and that the block is full, the one whose row is above
abbrev pub topmost : Refusal → Bool → Refusal
topmost e full = cond (nat_lt 3 (number_of e) && full) BlockFull e

abbrev pub add_step : Body → RawOperation → Outcome ℕ Body
add_step b q =
    cond (names_exist q)
    (cond (nat_lt (length b.entries) 64)
    (append b (typed_of q))
    (Err BlockFull)) (Err NoSuch)

-- operation i to a position, which there is: its cycle is below 1024 and its slot one of at most 8
abbrev pub move_to : Body → ℕ → Option Position → Outcome (Unit {0}) Body
move_to b i None = Err NoSuch
move_to b i (Some p) = cond (occupied b.entries i p) (Err Occupied) (Ok (tt, with_entries b (put b.entries i (Some p))))

abbrev pub place_step : List Slot → Body → ℕ → ℕ → ℕ → Outcome (Unit {0}) Body
place_step slots b i c s =
    cond (nat_lt i (length b.entries) && nat_lt s (length slots))
    (cond (nat_lt c 1024)
    (cond (takes_class slots s (class_at b.entries i))
    (move_to b i (position_at c s))
    (Err ClassNotTaken)) (Err BeyondLimit)) (Err NoSuch)

abbrev pub lift_from : Body → ℕ → Option Position → Outcome (Unit {0}) Body
lift_from b i None = Err (Unplaced i)
lift_from b i (Some p) = Ok (tt, with_entries b (put b.entries i None))

abbrev pub lift_step : Body → ℕ → Outcome (Unit {0}) Body
lift_step b i = cond (nat_lt i (length b.entries)) (lift_from b i (placed b.entries i)) (Err NoSuch)

abbrev pub leave_by : Body → Option Exit → Outcome (Unit {0}) Body
leave_by b None = Err NoSuch
leave_by b (Some x) = Ok (tt, with_exit b x)

-- n is the number of the block
abbrev pub exit_step : ℕ → Body → RawExit → Outcome (Unit {0}) Body
exit_step n b x = leave_by b (exit_for n x)
