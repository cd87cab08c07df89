-- That the assumptions can be met. Assumes nothing.
use Rattle.std.specs.Prelude.{◌≡◌, ℕ, ◌<◌, ◌≤◌, true, ◌≢◌}
use Rattle.registers.specs.declared.register.Register.{Register}
use Rattle.registers.specs.declared.register.Place.TheVariants as place
use Rattle.histories.specs.Schedule.{Program, Schedule, Timing}
use Rattle.histories.specs.Examples.{serial}
use Rattle.runs.specs.Ends.{WithinAccesses, Timed, SameHistories}
use Rattle.runs.specs.Marks.{marking}
use Rattle.runs.specs.Cells.{ResultsWithin}

-- an operation on marks depends on nothing, and changes only what it writes
abbrev pub MarksWithinAccesses : Type 0
MarksWithinAccesses = (c : ℕ) (register_of : ℕ → Register) (p : Program) (s : Schedule) (latency : ℕ → ℕ) → WithinAccesses (marking c register_of p s latency)

-- marks are written to c registers only
abbrev pub MarksWithinRegisters : Type 0
MarksWithinRegisters = (c : ℕ) (register_of : ℕ → Register) (p : Program) (s : Schedule) (latency : ℕ → ℕ) → ResultsWithin c (marking c register_of p s latency)

-- one operation after the other, d cycles apart, has the histories of written order
abbrev pub SerialRunsAsWritten : Type 0
SerialRunsAsWritten = (c : ℕ) (register_of : ℕ → Register) (p : Program) (d : ℕ) (latency : ℕ → ℕ) →
    ((i : ℕ) → i < p.size → (1 ≤ p.shortest i) × (p.shortest i ≤ p.longest i) × (p.longest i ≤ d)) →
    ((i : ℕ) → i < p.size → (p.accesses place.Memory).writes i ≡ true → (p.accesses place.Memory).reads i ≢ true) →
    Timing p latency → Timed (marking c register_of p (serial d) latency) × SameHistories (marking c register_of p (serial d) latency)
