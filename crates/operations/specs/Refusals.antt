-- The number of each refusal: its row in the table. Assumes nothing.
use Rattle.std.specs.Prelude.{ℕ}
use Rattle.operations.specs.declared.refusal.Refusal.{Refusal}
use Rattle.operations.specs.declared.refusal.Refusal.TheVariants.{Unreadable, NoSuch, BlockFull, WrongOperands, BeyondLimit, ClassNotTaken, Occupied, DuringVisit, OutsideVisit, Unfinished, Finished, Unplaced, Violated, NoSuchWord, StoreBarred, WrongSections, BufferTooShort}

abbrev pub number_of : Refusal → ℕ
number_of Unreadable = 1
number_of NoSuch = 2
number_of BlockFull = 3
number_of WrongOperands = 4
number_of BeyondLimit = 5
number_of ClassNotTaken = 6
number_of Occupied = 7
number_of DuringVisit = 8
number_of OutsideVisit = 9
number_of Unfinished = 10
number_of Finished = 11
number_of (Unplaced i) = 12
number_of (Violated v) = 13
number_of NoSuchWord = 14
number_of StoreBarred = 15
number_of WrongSections = 16
number_of BufferTooShort = 17
