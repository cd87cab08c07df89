-- A list of placed operations as a program and its schedule. Assumes nothing.
use Rattle.std.specs.Prelude.{◌≡◌, ℕ, ◌<◌, true, List, length, is_some, slice_index_or}
use Rattle.registers.specs.declared.register.Place.{Place}
use Rattle.histories.specs.Schedule.{Program, Schedule}
use Rattle.operations.specs.Access.{reads_of, writes_of}
use Rattle.blocks.specs.declared.description.Description.{Description}
use Rattle.blocks.specs.declared.position.Entry.{Entry}
use Rattle.blocks.specs.Machine.{bounds_of}
use Rattle.blocks.specs.Entries.{placed, cycle_in, slot_in}
use Rattle.checker.specs.declared.placed.Placed.{Placed}
use Rattle.checker.specs.Programs.{shortest_in, longest_in, program_of, schedule_of}
use Rattle.checker.specs.Pairs.{reads_at, writes_at}

-- the placed operation a is operation i of the program, where the schedule has it
pub record Tied (p : Program) (s : Schedule) (i : ℕ) (a : Placed) : Type 0 where
  pub writes : (x : Place) → (p.accesses x).writes i ≡ writes_at x a
  pub reads : (x : Place) → (p.accesses x).reads i ≡ reads_at x a
  pub shortest : p.shortest i ≡ a.shortest
  pub longest : p.longest i ≡ a.longest
  pub cycle : s.cycle i ≡ a.cycle
  pub slot : s.slot i ≡ a.slot

-- the placed operations are those of the program
pub record Seen (p : Program) (s : Schedule) (ps : List Placed) : Type 0 where
  pub size : p.size ≡ length ps
  pub each : (i : ℕ) (d : Placed) → i < length ps → Tied p s i (slice_index_or ps i d)

-- a is the operation of the entry, where it is placed
pub record Sees (d : Description) (e : Entry) (a : Placed) : Type 0 where
  pub placed : is_some e.position ≡ true
  pub reads : a.reads ≡ reads_of e.operation
  pub writes : a.writes ≡ writes_of e.operation
  pub shortest : a.shortest ≡ shortest_in (bounds_of d e.operation)
  pub longest : a.longest ≡ longest_in (bounds_of d e.operation)
  pub cycle : a.cycle ≡ cycle_in e.position
  pub slot : a.slot ≡ slot_in e.position

-- the first n operations of a block are placed, and as seen
pub record SeenTo (d : Description) (es : List Entry) (n : ℕ) (ps : List Placed) : Type 0 where
  pub placed : (i : ℕ) → i < n → is_some (placed es i) ≡ true
  pub each : (i : ℕ) (o : Placed) → i < n → Tied (program_of d es) (schedule_of es) i (slice_index_or ps i o)
