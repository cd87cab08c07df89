-- Two runs of one schedule, on marks. Assumes nothing.
use Rattle.std.specs.Prelude.{◌≡◌, ℕ, false, cond, ◌||◌, [], ◌==◌}
use Rattle.registers.specs.declared.register.Register.{Register}
use Rattle.registers.specs.declared.register.Place.{Place}
use Rattle.registers.specs.declared.register.Place.TheVariants as place
use Rattle.histories.specs.History.{Accesses}
use Rattle.histories.specs.Schedule.{Program, Schedule}
use Rattle.runs.specs.Machine.{Setup, run, issue_state}
use Rattle.runs.specs.Ends.{SameHistories}
use Rattle.runs.specs.Marks.{marking, unmarked}

-- 0 writes every register, 1 reads them, and 2 writes them
abbrev pub three_accesses : Place → Accesses
three_accesses (place.Register r) = record { writes = λ i. (i == 0) || (i == 2); reads = λ i. (i == 1) }
three_accesses place.Memory = record { writes = λ i. false; reads = λ i. false }

-- a result takes one cycle or two
abbrev pub three : Program
three = record { size = 3; accesses = three_accesses; shortest = λ i. 1; longest = λ i. 2 }

-- 0, 2 and 1 in cycles 0, 1 and 2
abbrev pub crossed : Schedule
crossed = record { cycle = λ i. cond (i == 0) 0 (cond (i == 1) 2 1); slot = λ i. 0 }

-- all latencies are 2: the results of 2 land in cycle 3, after 1 has read
abbrev pub slow : (ℕ → Register) → Setup ℕ ℕ ⊥
slow register_of = marking 1 register_of three crossed (λ i. 2)

-- that of 2 is 1: its results land with those of 0 in cycle 2, before 1 reads
abbrev pub quick : (ℕ → Register) → Setup ℕ ℕ ⊥
quick register_of = marking 1 register_of three crossed (λ i. cond (i == 2) 1 2)

-- the histories are those of written order, 1 finds the mark of 0, and that of 2 is left
pub record SlowExample (register_of : ℕ → Register) : Type 0 where
  pub same : SameHistories (slow register_of)
  pub reads : (issue_state (slow register_of) unmarked 1).registers 0 ≡ 0
  pub leaves : (run (slow register_of) unmarked 4).registers 0 ≡ 2
  pub empty : (run (slow register_of) unmarked 4).flight ≡ []

-- 1 finds the mark of 2, and that is left
pub record QuickExample (register_of : ℕ → Register) : Type 0 where
  pub reads : (issue_state (quick register_of) unmarked 1).registers 0 ≡ 2
  pub leaves : (run (quick register_of) unmarked 3).registers 0 ≡ 2
  pub empty : (run (quick register_of) unmarked 3).flight ≡ []

-- so it is, whatever the registers are
abbrev pub SlowRun : Type 0
SlowRun = (register_of : ℕ → Register) → SlowExample register_of

-- so it is, whatever the registers are
abbrev pub QuickRun : Type 0
QuickRun = (register_of : ℕ → Register) → QuickExample register_of
