-- A run on marks: each place holds the number of the operation that wrote it, or 64, and every write acts. Assumes nothing.
use Rattle.std.specs.Prelude.{◌≡◌, ℕ, zero, suc, ◌*◌, ◌<◌, ◌≤◌, Bool, true, cond, ◌⊎◌, List, [], ◌∷◌, ◌++◌, None}
use Rattle.registers.specs.declared.register.Register.{Register}
use Rattle.registers.specs.declared.register.Place.TheVariants as place
use Rattle.histories.specs.Schedule.{Program, Schedule, position}
use Rattle.runs.specs.Machine.{Write, Outcome, Setup, register_accesses, memory_accesses, landing_cycle, Contents, run, after_landings, issue_state}
use Rattle.runs.specs.Ends.{Timed, SameHistories}

-- the writes of the mark i to the registers below c that pass a test
abbrev pub mark_results : ℕ → (ℕ → Bool) → ℕ → List (Write ℕ)
mark_results zero w i = []
mark_results (suc c) w i = mark_results c w i ++ cond (w c) (record { to = c; value = i } ∷ []) []

-- operation i writes its mark to every place that it writes
abbrev pub mark_outcome : ℕ → (ℕ → Register) → Program → ℕ → Outcome ℕ ℕ ⊥
mark_outcome c register_of p i = record {
  results = mark_results c (λ q. (p.accesses (place.Register (register_of q))).writes i) i;
  change = λ m. cond ((p.accesses place.Memory).writes i) i m;
  fault = None;
}

-- a run on marks in c registers
abbrev pub marking : ℕ → (ℕ → Register) → Program → Schedule → (ℕ → ℕ) → Setup ℕ ℕ ⊥
marking c register_of p s latency = record { program = p; schedule = s; latency = latency; register_of = register_of; does = λ i r m. mark_outcome c register_of p i }

-- no place has been written
abbrev pub unmarked : Contents ℕ ℕ
unmarked = record { registers = λ q. 64; memory = 64 }

-- the highest number below j that passes a test; 64 where none does
abbrev pub highest : ℕ → (ℕ → Bool) → ℕ
highest zero w = 64
highest (suc j) w = cond (w j) j (highest j w)

-- where the operation j reads, it finds the mark of the highest writer below j
pub record HighestMarks (c : ℕ) (k : Setup ℕ ℕ ⊥) (j : ℕ) : Type 0 where
  pub registers : (q : ℕ) → q < c → (register_accesses k q).reads j ≡ true → (issue_state k unmarked j).registers q ≡ highest j (register_accesses k q).writes
  pub memory : (memory_accesses k).reads j ≡ true → (issue_state k unmarked j).memory ≡ highest j (memory_accesses k).writes

-- so it is in a run with the histories of written order
abbrev pub MarksAsWritten : Type 0
MarksAsWritten = (c : ℕ) (register_of : ℕ → Register) (p : Program) (s : Schedule) (latency : ℕ → ℕ) →
    Timed (marking c register_of p s latency) → SameHistories (marking c register_of p s latency) → (j : ℕ) → j < p.size → HighestMarks c (marking c register_of p s latency) j

-- m is 64, and no writer has its time before t; or m is a writer with its time before t, and no such writer has a later time, nor the
-- same time and a higher number
abbrev pub LastMark : ℕ → (ℕ → Bool) → (ℕ → ℕ) → ℕ → ℕ → Type 0
LastMark n writes time t m =
    ((m ≡ 64) × ((i : ℕ) → i < n → writes i ≡ true → t ≤ time i))
    ⊎ ((m < n) × (writes m ≡ true) × (time m < t) × ((i : ℕ) → i < n → writes i ≡ true → time i < t → (time i ≤ time m) × (time i ≡ time m → i ≤ m)))

-- in any schedule: a register after the landings of the cycle t holds the mark of the last landing
abbrev pub MarksByLanding : Type 0
MarksByLanding = (c : ℕ) (register_of : ℕ → Register) (p : Program) (s : Schedule) (latency : ℕ → ℕ) →
    Timed (marking c register_of p s latency) → (t q : ℕ) → q < c →
    LastMark p.size (p.accesses (place.Register (register_of q))).writes (landing_cycle (marking c register_of p s latency)) (suc t) ((after_landings (marking c register_of p s latency) unmarked t).registers q)

-- in any schedule: the memory when the cycle t begins holds the mark of the last position in earlier cycles
abbrev pub MarksByPosition : Type 0
MarksByPosition = (c : ℕ) (register_of : ℕ → Register) (p : Program) (s : Schedule) (latency : ℕ → ℕ) →
    Timed (marking c register_of p s latency) → (t : ℕ) →
    LastMark p.size (p.accesses place.Memory).writes (position s) (8 * t) (run (marking c register_of p s latency) unmarked t).memory
