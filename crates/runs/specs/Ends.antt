-- Where every place has its history in written order, a run ends as written order does; and what holds of any run. Assumes nothing.
use Rattle.std.specs.Prelude.{◌≡◌, ℕ, zero, suc, ◌+◌, ◌<◌, min, Bool, true, false, cond, ◌&&◌, List, [], ◌∷◌, length, is_some, nat_le, nat_lt}
use Rattle.registers.specs.declared.register.Place.{Place}
use Rattle.histories.specs.Schedule.{Timing, Sound, Same, none_withheld, WholeSame}
use Rattle.runs.specs.Machine.{Outcome, Issued, Setup, register_accesses, memory_accesses, landing_cycle, writes_to, Contents, written_state, written_outcome, State, in_flight, of_writer, not_due_in, step, issued_in, landed_in, run, issue_state, outcomes_of}

-- an operation depends only on the places that it reads, and changes only those that it writes
pub record WithinAccesses {V M F : Type 0} (k : Setup V M F) : Type 0 where
  pub depends : (i : ℕ) → i < k.program.size → (r s : ℕ → V) (m l : M) →
      ((q : ℕ) → (register_accesses k q).reads i ≡ true → r q ≡ s q) →
      ((memory_accesses k).reads i ≡ true → m ≡ l) → k.does i r m ≡ k.does i s l
  pub only_registers : (i q : ℕ) → i < k.program.size → (r : ℕ → V) (m : M) →
      writes_to q (k.does i r m).results ≡ true → (register_accesses k q).writes i ≡ true
  pub only_memory : (i : ℕ) → i < k.program.size → (r : ℕ → V) (m l : M) →
      (memory_accesses k).writes i ≡ false → (k.does i r m).change l ≡ l

-- at the latencies of this run every place has its history in written order, with nothing withheld
abbrev pub SameHistories : {V M F : Type 0} → Setup V M F → Type 0
SameHistories k = (x : Place) → Same k.program k.schedule k.latency x none_withheld

-- what is taken of a run: its schedule is sound, and its latencies are within their bounds
pub record Timed {V M F : Type 0} (k : Setup V M F) : Type 0 where
  pub sound : Sound k.program k.schedule
  pub timing : Timing k.program k.latency

-- when the cycle t begins every operation has issued, and every result has landed
pub record Finished {V M F : Type 0} (k : Setup V M F) (t : ℕ) (st : State V M F) : Type 0 where
  pub issued : (i : ℕ) → i < k.program.size → k.schedule.cycle i < t
  pub empty : st.flight ≡ []

-- registers and memory are those that written order leaves, and each operation has issued once, with its outcome in written order
pub record SameEnd {V M F : Type 0} (k : Setup V M F) (a : Contents V M) (st : State V M F) : Type 0 where
  pub registers : (q : ℕ) → st.registers q ≡ (written_state k a k.program.size).registers q
  pub memory : st.memory ≡ (written_state k a k.program.size).memory
  pub outcomes : (i : ℕ) → i < k.program.size → outcomes_of i st.log ≡ written_outcome k a i ∷ []

-- a run with the histories of written order leaves what written order leaves
abbrev pub EndsAsWritten : Type 0 → Type 0 → Type 0 → Type 0
EndsAsWritten V M F = (k : Setup V M F) → Timed k → WithinAccesses k → SameHistories k →
    (a : Contents V M) (t : ℕ) → Finished k t (run k a t) → SameEnd k a (run k a t)

-- the same of a schedule: where it has the histories of written order at every timing, it ends as written order does at every timing
abbrev pub AlwaysEndsAsWritten : Type 0 → Type 0 → Type 0 → Type 0
AlwaysEndsAsWritten V M F = (k : Setup V M F) → Timed k → WithinAccesses k → WholeSame k.program k.schedule →
    (a : Contents V M) (t : ℕ) → ((i : ℕ) → i < k.program.size → k.schedule.cycle i + k.program.longest i < t) → Finished k t (run k a t) × SameEnd k a (run k a t)

-- in any schedule: past the last landing every operation has issued, and every result has landed
abbrev pub RunFinishes : Type 0 → Type 0 → Type 0 → Type 0
RunFinishes V M F = (k : Setup V M F) → Timed k → (a : Contents V M) (t : ℕ) →
    ((i : ℕ) → i < k.program.size → landing_cycle k i < t) → Finished k t (run k a t)

-- whether the operation w has issued when the cycle t begins
abbrev pub issued_by : {V M F : Type 0} → Setup V M F → ℕ → ℕ → Bool
issued_by k t w = nat_lt w k.program.size && nat_lt (k.schedule.cycle w) t

-- when the cycle t begins: the operations of earlier cycles have issued, each once and with its outcome in written order, and no other
-- has; the results of an operation are in flight if it has issued and they have not landed
pub record InProgress {V M F : Type 0} (k : Setup V M F) (a : Contents V M) (t : ℕ) : Type 0 where
  pub log : (w : ℕ) → outcomes_of w (run k a t).log ≡ cond (issued_by k t w) (written_outcome k a w ∷ []) []
  pub flight : (w : ℕ) → of_writer w (run k a t).flight ≡
      cond (issued_by k t w && nat_le t (landing_cycle k w)) (in_flight (landing_cycle k w) w (written_outcome k a w).results) []

-- so it is in a run with the histories of written order
abbrev pub RunsAsWritten : Type 0 → Type 0 → Type 0 → Type 0
RunsAsWritten V M F = (k : Setup V M F) → Timed k → WithinAccesses k → SameHistories k → (a : Contents V M) (t : ℕ) → InProgress k a t

-- the operation j finds where it reads what it finds there in written order
pub record SameReads {V M F : Type 0} (k : Setup V M F) (a : Contents V M) (j : ℕ) : Type 0 where
  pub registers : (q : ℕ) → (register_accesses k q).reads j ≡ true → (issue_state k a j).registers q ≡ (written_state k a j).registers q
  pub memory : (memory_accesses k).reads j ≡ true → (issue_state k a j).memory ≡ (written_state k a j).memory

-- so does every operation in a run with the histories of written order
abbrev pub ReadsAsWritten : Type 0 → Type 0 → Type 0 → Type 0
ReadsAsWritten V M F = (k : Setup V M F) → Timed k → WithinAccesses k → SameHistories k →
    (a : Contents V M) (j : ℕ) → j < k.program.size → SameReads k a j

-- the lowest operation of a log that has a fault; n where none has
abbrev pub lowest_fault : {V M F : Type 0} → ℕ → List (Issued V M F) → ℕ
lowest_fault n [] = n
lowest_fault n (x ∷ xs) = cond (is_some x.outcome.fault) (min x.operation (lowest_fault n xs)) (lowest_fault n xs)

-- the lowest number below n that passes a test; n where none does
abbrev pub first_below : ℕ → (ℕ → Bool) → ℕ
first_below zero g = 0
first_below (suc n) g = cond (nat_lt (first_below n g) n) (first_below n g) (cond (g n) n (suc n))

-- in a run with the histories of written order the lowest operation with a fault is the first with a fault in written order
abbrev pub FaultAsWritten : Type 0 → Type 0 → Type 0 → Type 0
FaultAsWritten V M F = (k : Setup V M F) → Timed k → WithinAccesses k → SameHistories k →
    (a : Contents V M) (t : ℕ) → Finished k t (run k a t) →
    lowest_fault k.program.size (run k a t).log ≡ first_below k.program.size (λ i. is_some (written_outcome k a i).fault)

-- in any log that has each operation once, the lowest operation with a fault is the first of those with a fault
abbrev pub LowestOfOutcomes : Type 0 → Type 0 → Type 0 → Type 0
LowestOfOutcomes V M F = (n : ℕ) (log : List (Issued V M F)) (o : ℕ → Outcome V M F) → ((i : ℕ) → i < n → outcomes_of i log ≡ o i ∷ []) →
    lowest_fault n log ≡ first_below n (λ i. is_some (o i).fault)

-- in any schedule: a step adds to the log as many operations as issue in it; each result in flight lands or stays in flight
abbrev pub StepCounts : Type 0 → Type 0 → Type 0 → Type 0
StepCounts V M F = (k : Setup V M F) → Timed k → (st : State V M F) →
    (length (step k st).log ≡ length st.log + issued_in k st) × (length st.flight ≡ landed_in st + length (not_due_in st.now st.flight))
