-- Two machines that run a program of numbered operations, over any values V, memories M and faults F: one runs them one after the
-- other as written, the other cycle by cycle as scheduled, where a result lands in a later cycle. Assumes nothing.
use Rattle.std.specs.Prelude.{ℕ, zero, suc, ◌+◌, Bool, false, cond, ◌&&◌, ◌||◌, List, [], ◌∷◌, ◌++◌, length, Option, ◌==◌, nat_eq}
use Rattle.histories.specs.History.{Accesses}
use Rattle.histories.specs.Below.{count_below}
use Rattle.registers.specs.declared.register.Register.{Register}
use Rattle.registers.specs.declared.register.Place.TheVariants as place
use Rattle.histories.specs.Schedule.{Program, Schedule}

-- a value that is written to a register
pub record Write (V : Type 0) : Type 0 where
  pub to : ℕ
  pub value : V

-- what an operation does: the register writes that act, in their order; what becomes of the memory; its fault, where it has one
pub record Outcome (V M F : Type 0) : Type 0 where
  pub results : List (Write V)
  pub change : M → M
  pub fault : Option F

-- a result in flight, and the cycle in which it lands
pub record Pending (V : Type 0) : Type 0 where
  pub due : ℕ
  pub writer : ℕ
  pub to : ℕ
  pub value : V

-- an operation that has issued, and what it did
pub record Issued (V M F : Type 0) : Type 0 where
  pub operation : ℕ
  pub outcome : Outcome V M F

-- what is run. The machines number their registers; two numbers may stand for one register
pub record Setup (V M F : Type 0) : Type 0 where
  pub program : Program
  pub schedule : Schedule
  -- how many cycles the results of each operation take in this run
  pub latency : ℕ → ℕ
  -- the register that a number stands for
  pub register_of : ℕ → Register
  -- what an operation does with the registers and the memory that it finds
  pub does : ℕ → (ℕ → V) → M → Outcome V M F

-- who writes and reads the register with the number q
abbrev pub register_accesses : {V M F : Type 0} → Setup V M F → ℕ → Accesses
register_accesses k q = k.program.accesses (place.Register (k.register_of q))

-- who writes and reads the memory
abbrev pub memory_accesses : {V M F : Type 0} → Setup V M F → Accesses
memory_accesses k = k.program.accesses place.Memory

-- the cycle in which the results of i land
abbrev pub landing_cycle : {V M F : Type 0} → Setup V M F → ℕ → ℕ
landing_cycle k i = k.schedule.cycle i + k.latency i

-- the registers with one of them set
abbrev pub with_register : {V : Type 0} → (ℕ → V) → ℕ → V → ℕ → V
with_register r q v x = cond (x == q) v (r x)

-- the registers after some writes, one after the other
abbrev pub write_all : {V : Type 0} → List (Write V) → (ℕ → V) → ℕ → V
write_all [] r = r
write_all (x ∷ xs) r = write_all xs (with_register r x.to x.value)

-- whether one of the writes is to the register q
abbrev pub writes_to : {V : Type 0} → ℕ → List (Write V) → Bool
writes_to q [] = false
writes_to q (x ∷ xs) = q == x.to || writes_to q xs

-- what the registers and the memory hold
pub record Contents (V M : Type 0) : Type 0 where
  pub registers : ℕ → V
  pub memory : M

-- in written order: what they hold after an operation
abbrev pub after : {V M F : Type 0} → Outcome V M F → Contents V M → Contents V M
after o st = record { registers = write_all o.results st.registers; memory = o.change st.memory }

-- what they hold when operation i begins, in written order
abbrev pub written_state : {V M F : Type 0} → Setup V M F → Contents V M → ℕ → Contents V M
written_state k st zero = st
written_state k st (suc i) = after (k.does i (written_state k st i).registers (written_state k st i).memory) (written_state k st i)

-- what operation i does in written order
abbrev pub written_outcome : {V M F : Type 0} → Setup V M F → Contents V M → ℕ → Outcome V M F
written_outcome k st i = k.does i (written_state k st i).registers (written_state k st i).memory

-- the machine that runs cycle by cycle, when the cycle `now` begins; the log has the operations that have issued, the last one first
pub record State (V M F : Type 0) : Type 0 where
  pub now : ℕ
  pub registers : ℕ → V
  pub flight : List (Pending V)
  pub memory : M
  pub log : List (Issued V M F)

-- the results of the operation i, in flight until the cycle d
abbrev pub in_flight : {V : Type 0} → ℕ → ℕ → List (Write V) → List (Pending V)
in_flight d i [] = []
in_flight d i (x ∷ xs) = record { due = d; writer = i; to = x.to; value = x.value } ∷ in_flight d i xs

-- the results of the operation w
abbrev pub of_writer : {V : Type 0} → ℕ → List (Pending V) → List (Pending V)
of_writer w [] = []
of_writer w (x ∷ xs) = cond (x.writer == w) (x ∷ of_writer w xs) (of_writer w xs)

-- the results that land in the cycle t
abbrev pub due_in : {V : Type 0} → ℕ → List (Pending V) → List (Pending V)
due_in t [] = []
due_in t (x ∷ xs) = cond (x.due == t) (x ∷ due_in t xs) (due_in t xs)

-- the results that do not land in the cycle t
abbrev pub not_due_in : {V : Type 0} → ℕ → List (Pending V) → List (Pending V)
not_due_in t [] = []
not_due_in t (x ∷ xs) = cond (x.due == t) (not_due_in t xs) (x ∷ not_due_in t xs)

-- the registers after results have landed, one after the other
abbrev pub landed_all : {V : Type 0} → List (Pending V) → (ℕ → V) → ℕ → V
landed_all [] r = r
landed_all (x ∷ xs) r = landed_all xs (with_register r x.to x.value)

-- the registers after the results of the writers below n have landed, ascending: of two results for one register that of the higher
-- writer remains
abbrev pub land_below : {V : Type 0} → ℕ → List (Pending V) → (ℕ → V) → ℕ → V
land_below zero fl r = r
land_below (suc w) fl r = landed_all (of_writer w fl) (land_below w fl r)

-- the operation i issues in the cycle t
abbrev pub issue : {V M F : Type 0} → Setup V M F → ℕ → ℕ → State V M F → State V M F
issue k t i st =
    let o = k.does i st.registers st.memory in
    record {
      now = st.now;
      registers = st.registers;
      flight = st.flight ++ in_flight (t + k.latency i) i o.results;
      memory = o.change st.memory;
      log = record { operation = i; outcome = o } ∷ st.log;
    }

-- the operations below m that are scheduled in the cycle t and the slot b issue
abbrev pub issue_slot : {V M F : Type 0} → Setup V M F → ℕ → ℕ → ℕ → State V M F → State V M F
issue_slot k t b zero st = st
issue_slot k t b (suc i) st = cond (k.schedule.cycle i == t && k.schedule.slot i == b) (issue k t i (issue_slot k t b i st)) (issue_slot k t b i st)

-- the operations in the slots below b of the cycle t issue, slots ascending
abbrev pub issue_slots : {V M F : Type 0} → Setup V M F → ℕ → ℕ → State V M F → State V M F
issue_slots k t zero st = st
issue_slots k t (suc b) st = issue_slot k t b k.program.size (issue_slots k t b st)

-- the results due in the cycle t land
abbrev pub landed : {V M F : Type 0} → Setup V M F → ℕ → State V M F → State V M F
landed k t st = record {
  now = st.now;
  registers = land_below k.program.size (due_in t st.flight) st.registers;
  flight = not_due_in t st.flight;
  memory = st.memory;
  log = st.log;
}

-- the same when the next cycle begins
abbrev pub next_cycle : {V M F : Type 0} → State V M F → State V M F
next_cycle st = record { now = suc st.now; registers = st.registers; flight = st.flight; memory = st.memory; log = st.log }

-- one cycle: results land, then operations issue, slots ascending
abbrev pub step : {V M F : Type 0} → Setup V M F → State V M F → State V M F
step k st = next_cycle (issue_slots k st.now 8 (landed k st.now st))

-- how many operations issue in the step
abbrev pub issued_in : {V M F : Type 0} → Setup V M F → State V M F → ℕ
issued_in k st = count_below k.program.size (λ i. nat_eq (k.schedule.cycle i) st.now)

-- how many results land in the step
abbrev pub landed_in : {V M F : Type 0} → State V M F → ℕ
landed_in st = length (due_in st.now st.flight)

-- the state when the first cycle begins
abbrev pub start : {V M F : Type 0} → Contents V M → State V M F
start st = record { now = 0; registers = st.registers; flight = []; memory = st.memory; log = [] }

-- the state after t cycles
abbrev pub run : {V M F : Type 0} → Setup V M F → Contents V M → ℕ → State V M F
run k st zero = start st
run k st (suc t) = step k (run k st t)

-- the state that the reads of the cycle t find: after its landings
abbrev pub after_landings : {V M F : Type 0} → Setup V M F → Contents V M → ℕ → State V M F
after_landings k st t = landed k t (run k st t)

-- the state in which the operation j issues
abbrev pub issue_state : {V M F : Type 0} → Setup V M F → Contents V M → ℕ → State V M F
issue_state k st j = issue_slot k (k.schedule.cycle j) (k.schedule.slot j) j (issue_slots k (k.schedule.cycle j) (k.schedule.slot j) (after_landings k st (k.schedule.cycle j)))

-- what the log says that the operation w did: an outcome for each time that it issued
abbrev pub outcomes_of : {V M F : Type 0} → ℕ → List (Issued V M F) → List (Outcome V M F)
outcomes_of w [] = []
outcomes_of w (x ∷ xs) = cond (x.operation == w) (x.outcome ∷ outcomes_of w xs) (outcomes_of w xs)
