-- What a verdict says of a program and its schedule. Assumes nothing.
use Rattle.std.specs.Prelude.{◌≡◌, ℕ, ◌<◌, ◌≤◌, cond, ◌↔◌, ◌==◌}
use Rattle.operations.specs.declared.refusal.Dependence.{Dependence}
use Rattle.operations.specs.declared.refusal.Dependence.TheVariants.{Flow, Anti, Output, Memory}
use Rattle.operations.specs.declared.refusal.Violation.{Violation}
use Rattle.registers.specs.declared.register.Register.{Register}
use Rattle.registers.specs.declared.register.Place.{Place}
use Rattle.registers.specs.declared.register.Place.TheVariants as place
use Rattle.histories.specs.Schedule as schedule
use Rattle.histories.specs.Schedule.{Program, Schedule, Same, none_withheld, FlowKept, AntiKept, OutputKept, ConflictKept}

-- j depends on i in this way, at this place: a register, or for memory the memory
abbrev pub Depends : Dependence → Program → Place → ℕ → ℕ → Type 0
Depends Flow p x i j = ((r : Register) × (x ≡ place.Register r)) × schedule.Flow p x i j
Depends Anti p x i j = ((r : Register) × (x ≡ place.Register r)) × schedule.Anti p x i j
Depends Output p x i j = ((r : Register) × (x ≡ place.Register r)) × schedule.Output p x i j
Depends Memory p x i j = (x ≡ place.Memory) × schedule.Conflict p i j

-- the dependence is kept by the schedule
abbrev pub Holds : Dependence → Program → Schedule → ℕ → ℕ → Type 0
Holds Flow p s i j = FlowKept p s i j
Holds Anti p s i j = AntiKept p s i j
Holds Output p s i j = OutputKept p s i j
Holds Memory p s i j = ConflictKept s i j

-- the schedule with operation j in cycle c and slot b
abbrev pub moved : Schedule → ℕ → ℕ → ℕ → Schedule
moved s j c b = record { cycle = λ k. cond (k == j) c (s.cycle k); slot = λ k. cond (k == j) b (s.slot k) }

-- the latencies at which a broken dependence shows: the longest of i, the shortest of j
abbrev pub NamedLatencies : Dependence → Program → (ℕ → ℕ) → ℕ → ℕ → Type 0
NamedLatencies Flow p latency i j = latency i ≡ p.longest i
NamedLatencies Anti p latency i j = latency j ≡ p.shortest j
NamedLatencies Output p latency i j = (latency i ≡ p.longest i) × (latency j ≡ p.shortest j)
NamedLatencies Memory p latency i j = Unit {0}

-- a violation that is there and shows, on a machine with this many slots
pub record Shows (p : Program) (s : Schedule) (slots : ℕ) (v : Violation) : Type 0 where
  -- the dependence is there, and broken
  pub depends : Depends v.dependence p v.place v.first v.second
  pub broken : ¬ Holds v.dependence p s v.first v.second
  -- it would hold with the later operation in some slot of cycle c if and only if c is not below the least cycle
  pub least : (c : ℕ) → ((b : ℕ) × (b < slots) × Holds v.dependence p (moved s v.second c b) v.first v.second) ↔ (v.least ≤ c)
  -- at the named latencies, whatever the others are, with nothing withheld, the place has another history than in written order
  pub differs : (latency : ℕ → ℕ) → NamedLatencies v.dependence p latency v.first v.second → ¬ Same p s latency v.place none_withheld
