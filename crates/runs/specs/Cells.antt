-- The two machines with their registers in a list of cells: what they do is what the machines over functions do. Assumes nothing.
use Rattle.std.specs.Prelude.{◌≡◌, ℕ, zero, suc, ◌+◌, ◌<◌, ◌≤◌, Bool, true, cond, ◌&&◌, List, [], ◌∷◌, ◌++◌, length, ◌==◌, nat_lt, slice_index_or, slice_set}
use Rattle.runs.specs.Machine.{Write, Outcome, Pending, Issued, Setup, Contents, written_state, State, in_flight, of_writer, due_in, not_due_in, step, run, after_landings, outcomes_of}
use Rattle.runs.specs.Ends.{WithinAccesses, Timed, SameHistories, Finished}

-- what the cells and the memory hold
pub record CellContents (V M : Type 0) : Type 0 where
  pub cells : List V
  pub memory : M

-- the machine that runs cycle by cycle
pub record CellState (V M F : Type 0) : Type 0 where
  pub now : ℕ
  pub cells : List V
  pub flight : List (Pending V)
  pub memory : M
  pub log : List (Issued V M F)

-- what the registers hold: d where there is no cell
abbrev pub registers_in : {V : Type 0} → V → List V → ℕ → V
registers_in d r q = slice_index_or r q d

-- the cells after some writes, one after the other
abbrev pub write_cells : {V : Type 0} → List (Write V) → List V → List V
write_cells [] r = r
write_cells (x ∷ xs) r = write_cells xs (slice_set r x.to x.value)

-- in written order: after an operation
abbrev pub after_cells : {V M F : Type 0} → Outcome V M F → CellContents V M → CellContents V M
after_cells o st = record { cells = write_cells o.results st.cells; memory = o.change st.memory }

-- when operation i begins, in written order
abbrev pub written_cells : {V M F : Type 0} → V → Setup V M F → CellContents V M → ℕ → CellContents V M
written_cells d k st zero = st
written_cells d k st (suc i) = after_cells (k.does i (registers_in d (written_cells d k st i).cells) (written_cells d k st i).memory) (written_cells d k st i)

-- the cells after results have landed, one after the other
abbrev pub landed_all_cells : {V : Type 0} → List (Pending V) → List V → List V
landed_all_cells [] r = r
landed_all_cells (x ∷ xs) r = landed_all_cells xs (slice_set r x.to x.value)

-- the cells after the results of the writers below n have landed, ascending
abbrev pub land_below_cells : {V : Type 0} → ℕ → List (Pending V) → List V → List V
land_below_cells zero fl r = r
land_below_cells (suc w) fl r = landed_all_cells (of_writer w fl) (land_below_cells w fl r)

-- the operation i issues in the cycle t
abbrev pub issue_cells : {V M F : Type 0} → V → Setup V M F → ℕ → ℕ → CellState V M F → CellState V M F
issue_cells d k t i st =
    let o = k.does i (registers_in d st.cells) st.memory in
    record {
      now = st.now;
      cells = st.cells;
      flight = st.flight ++ in_flight (t + k.latency i) i o.results;
      memory = o.change st.memory;
      log = record { operation = i; outcome = o } ∷ st.log;
    }

-- the operations below m that are scheduled in the cycle t and the slot b issue
abbrev pub issue_slot_cells : {V M F : Type 0} → V → Setup V M F → ℕ → ℕ → ℕ → CellState V M F → CellState V M F
issue_slot_cells d k t b zero st = st
issue_slot_cells d k t b (suc i) st =
    cond (k.schedule.cycle i == t && k.schedule.slot i == b) (issue_cells d k t i (issue_slot_cells d k t b i st)) (issue_slot_cells d k t b i st)

-- the operations in the slots below b of the cycle t issue, slots ascending
abbrev pub issue_slots_cells : {V M F : Type 0} → V → Setup V M F → ℕ → ℕ → CellState V M F → CellState V M F
issue_slots_cells d k t zero st = st
issue_slots_cells d k t (suc b) st = issue_slot_cells d k t b k.program.size (issue_slots_cells d k t b st)

-- the results due in the cycle t land
abbrev pub landed_cells : {V M F : Type 0} → Setup V M F → ℕ → CellState V M F → CellState V M F
landed_cells k t st = record {
  now = st.now;
  cells = land_below_cells k.program.size (due_in t st.flight) st.cells;
  flight = not_due_in t st.flight;
  memory = st.memory;
  log = st.log;
}

-- the same when the next cycle begins
abbrev pub next_cycle_cells : {V M F : Type 0} → CellState V M F → CellState V M F
next_cycle_cells st = record { now = suc st.now; cells = st.cells; flight = st.flight; memory = st.memory; log = st.log }

-- one cycle: results land, then operations issue, slots ascending
abbrev pub step_cells : {V M F : Type 0} → V → Setup V M F → CellState V M F → CellState V M F
step_cells d k st = next_cycle_cells (issue_slots_cells d k st.now 8 (landed_cells k st.now st))

-- the state when the first cycle begins
abbrev pub start_cells : {V M F : Type 0} → CellContents V M → CellState V M F
start_cells st = record { now = 0; cells = st.cells; flight = []; memory = st.memory; log = [] }

-- the state after t cycles
abbrev pub run_cells : {V M F : Type 0} → V → Setup V M F → CellContents V M → ℕ → CellState V M F
run_cells d k st zero = start_cells st
run_cells d k st (suc t) = step_cells d k (run_cells d k st t)

-- the state over functions that a state with cells stands for
abbrev pub cells_state : {V M F : Type 0} → V → CellState V M F → State V M F
cells_state d st = record { now = st.now; registers = registers_in d st.cells; flight = st.flight; memory = st.memory; log = st.log }

-- the contents that cells stand for
abbrev pub cells_contents : {V M : Type 0} → V → CellContents V M → Contents V M
cells_contents d st = record { registers = registers_in d st.cells; memory = st.memory }

-- every write is to one of c registers
abbrev pub results_within : {V : Type 0} → ℕ → List (Write V) → Bool
results_within c [] = true
results_within c (x ∷ xs) = nat_lt x.to c && results_within c xs

-- every result in flight is for one of c registers
abbrev pub flight_within : {V : Type 0} → ℕ → List (Pending V) → Bool
flight_within c [] = true
flight_within c (x ∷ xs) = nat_lt x.to c && flight_within c xs

-- the operations write to no other than c registers
abbrev pub ResultsWithin : {V M F : Type 0} → ℕ → Setup V M F → Type 0
ResultsWithin {V} {M} c k = (i : ℕ) → i < k.program.size → (r : ℕ → V) (m : M) → results_within c (k.does i r m).results ≡ true

-- there are c cells, and the results in flight are for them
pub record Sized {V M F : Type 0} (c : ℕ) (st : CellState V M F) : Type 0 where
  pub cells : length st.cells ≡ c
  pub flight : flight_within c st.flight ≡ true

-- a step on cells is a step, and there are as many cells after it
abbrev pub CellsStep : Type 0 → Type 0 → Type 0 → Type 0
CellsStep V M F = (d : V) (k : Setup V M F) (c : ℕ) → ResultsWithin c k → (st : CellState V M F) → Sized c st → (cells_state d (step_cells d k st) ≡ step k (cells_state d st)) × Sized c (step_cells d k st)

-- a run on cells is a run, and what its reads find is the same
abbrev pub CellsRun : Type 0 → Type 0 → Type 0 → Type 0
CellsRun V M F = (d : V) (k : Setup V M F) (c : ℕ) → ResultsWithin c k → (a : CellContents V M) → length a.cells ≡ c → (t : ℕ) →
    (cells_state d (run_cells d k a t) ≡ run k (cells_contents d a) t) × (cells_state d (landed_cells k t (run_cells d k a t)) ≡ after_landings k (cells_contents d a) t)

-- written order on cells is written order, and there are as many cells in it
abbrev pub CellsWritten : Type 0 → Type 0 → Type 0 → Type 0
CellsWritten V M F = (d : V) (k : Setup V M F) (c : ℕ) → ResultsWithin c k → (a : CellContents V M) → length a.cells ≡ c →
    (i : ℕ) → i ≤ k.program.size → (cells_contents d (written_cells d k a i) ≡ written_state k (cells_contents d a) i) × (length (written_cells d k a i).cells ≡ c)

-- cells and memory are those that written order leaves, and each operation has issued once, with its outcome in written order
pub record SameCells {V M F : Type 0} (d : V) (k : Setup V M F) (a : CellContents V M) (st : CellState V M F) : Type 0 where
  pub cells : st.cells ≡ (written_cells d k a k.program.size).cells
  pub memory : st.memory ≡ (written_cells d k a k.program.size).memory
  pub outcomes : (i : ℕ) → i < k.program.size → outcomes_of i st.log ≡ k.does i (registers_in d (written_cells d k a i).cells) (written_cells d k a i).memory ∷ []

-- a run on cells with the histories of written order leaves what written order leaves
abbrev pub CellsEndAsWritten : Type 0 → Type 0 → Type 0 → Type 0
CellsEndAsWritten V M F = (d : V) (k : Setup V M F) (c : ℕ) → ResultsWithin c k → Timed k → WithinAccesses k → SameHistories k →
    (a : CellContents V M) → length a.cells ≡ c → (t : ℕ) → Finished k t (cells_state d (run_cells d k a t)) → SameCells d k a (run_cells d k a t)
