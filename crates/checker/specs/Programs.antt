-- The operations of a block as a program and its schedule. Assumes nothing.
use Rattle.std.specs.Prelude.{ℕ, false, List, map, length, Some, None, Option, slice_index_or}
use Rattle.operations.specs.Access.{reads, writes}
use Rattle.blocks.specs.declared.description.Bounds.{Bounds}
use Rattle.blocks.specs.declared.description.Description.{Description}
use Rattle.blocks.specs.declared.position.Entry.{Entry}
use Rattle.blocks.specs.Machine.{bounds_of}
use Rattle.blocks.specs.Entries.{cycle_of, slot_of}
use Rattle.histories.specs.Schedule.{Program, Schedule}

-- a store has no result: the 1 that stands here for its latency is in no history
abbrev pub shortest_in : Option Bounds → ℕ
shortest_in None = 1
shortest_in (Some b) = b.shortest

abbrev pub longest_in : Option Bounds → ℕ
longest_in None = 1
longest_in (Some b) = b.longest

-- who writes and reads each place, and how long each result takes
abbrev pub program_of : Description → List Entry → Program
program_of d es = record {
  size = length es;
  accesses = λ x. record {
    writes = λ i. slice_index_or (map (λ e. writes x e.operation) es) i false;
    reads = λ i. slice_index_or (map (λ e. reads x e.operation) es) i false;
  };
  shortest = λ i. slice_index_or (map (λ e. shortest_in (bounds_of d e.operation)) es) i 1;
  longest = λ i. slice_index_or (map (λ e. longest_in (bounds_of d e.operation)) es) i 1;
}

-- the cycle and the slot of each operation
abbrev pub schedule_of : List Entry → Schedule
schedule_of es = record { cycle = cycle_of es; slot = slot_of es }
