-- A program of numbered operations, a schedule of it, and the dependences that the schedule has to keep. Assumes nothing.
use Rattle.std.specs.Prelude.{◌≡◌, ℕ, ◌+◌, ◌*◌, ◌<◌, ◌≤◌, Bool, true, false, not, ◌&&◌, ◌||◌, ◌↔◌, ◌≢◌}
use Rattle.registers.specs.declared.register.Register.{Register}
use Rattle.registers.specs.declared.register.Place.{Place}
use Rattle.registers.specs.declared.register.Place.TheVariants as place
use Rattle.histories.specs.History.{Accesses, Clock, history}

-- the operations 0 to size - 1: who writes and reads each place, and how many cycles a result takes, at the least and at the most
pub record Program : Type 0 where
  pub size : ℕ
  pub accesses : Place → Accesses
  pub shortest : ℕ → ℕ
  pub longest : ℕ → ℕ

-- the cycle of each operation, and its slot in the cycle
pub record Schedule : Type 0 where
  pub cycle : ℕ → ℕ
  pub slot : ℕ → ℕ

-- how many cycles each result takes is within its bounds
abbrev pub Timing : Program → (ℕ → ℕ) → Type 0
Timing p latency = (i : ℕ) → i < p.size → (p.shortest i ≤ latency i) × (latency i ≤ p.longest i)

-- when an operation on the memory acts: cycle by cycle, and within a cycle slot by slot; a cycle has at most 8 slots
abbrev pub position : Schedule → ℕ → ℕ
position s i = 8 * s.cycle i + s.slot i

-- in written order: each operation reads, then writes, before the next begins
abbrev pub written : Clock
written = record { lands_at = λ i. 2 * i + 1; reads_at = λ i. 2 * i }

-- as scheduled: the results that land in a cycle land before the reads of that cycle; memory operations act one by one
abbrev pub scheduled : Schedule → (ℕ → ℕ) → Place → Clock
scheduled s latency (place.Register r) = record { lands_at = λ i. 2 * (s.cycle i + latency i); reads_at = λ i. 2 * s.cycle i + 1 }
scheduled s latency place.Memory = record { lands_at = position s; reads_at = position s }

-- the accesses without the writes that are withheld; the reads stay
abbrev pub without : (ℕ → Bool) → Accesses → Accesses
without withheld a = record { writes = λ i. not (withheld i) && a.writes i; reads = a.reads }

-- no write is withheld
abbrev pub none_withheld : ℕ → Bool
none_withheld i = false

-- with these latencies, and these writes of the place withheld, the place has the history that it has in written order
abbrev pub Same : Program → Schedule → (ℕ → ℕ) → Place → (ℕ → Bool) → Type 0
Same p s latency x withheld =
    history p.size (without withheld (p.accesses x)) (scheduled s latency x) ≡ history p.size (without withheld (p.accesses x)) written

-- at every timing and every choice of withheld writes each place has its history in written order
abbrev pub AlwaysSame : Program → Schedule → Type 0
AlwaysSame p s = (latency : ℕ → ℕ) → Timing p latency → (withheld : Place → ℕ → Bool) (x : Place) → Same p s latency x (withheld x)

-- the same with nothing withheld
abbrev pub WholeSame : Program → Schedule → Type 0
WholeSame p s = (latency : ℕ → ℕ) → Timing p latency → (x : Place) → Same p s latency x none_withheld

-- i comes before j in the program, i writes the place, and j reads it
abbrev pub Flow : Program → Place → ℕ → ℕ → Type 0
Flow p x i j = (i < j) × (j < p.size) × ((p.accesses x).writes i ≡ true) × ((p.accesses x).reads j ≡ true)

-- i comes before j in the program, i reads the place, and j writes it
abbrev pub Anti : Program → Place → ℕ → ℕ → Type 0
Anti p x i j = (i < j) × (j < p.size) × ((p.accesses x).reads i ≡ true) × ((p.accesses x).writes j ≡ true)

-- i comes before j in the program, and both write the place
abbrev pub Output : Program → Place → ℕ → ℕ → Type 0
Output p x i j = (i < j) × (j < p.size) × ((p.accesses x).writes i ≡ true) × ((p.accesses x).writes j ≡ true)

-- whether an operation writes or reads
abbrev pub uses : Accesses → ℕ → Bool
uses a i = a.writes i || a.reads i

-- i comes before j in the program, both are memory operations, and one of them is a store
abbrev pub Conflict : Program → ℕ → ℕ → Type 0
Conflict p i j = (i < j) × (j < p.size)
    × (uses (p.accesses place.Memory) i ≡ true)
    × (uses (p.accesses place.Memory) j ≡ true)
    × (((p.accesses place.Memory).writes i || (p.accesses place.Memory).writes j) ≡ true)

-- the result of i lands when j reads, or before, however long it takes
abbrev pub FlowKept : Program → Schedule → ℕ → ℕ → Type 0
FlowKept p s i j = s.cycle i + p.longest i ≤ s.cycle j

-- i reads before the result of j lands, however short a time it takes
abbrev pub AntiKept : Program → Schedule → ℕ → ℕ → Type 0
AntiKept p s i j = s.cycle i < s.cycle j + p.shortest j

-- the result of i lands before that of j, at all latencies
abbrev pub OutputKept : Program → Schedule → ℕ → ℕ → Type 0
OutputKept p s i j = s.cycle i + p.longest i < s.cycle j + p.shortest j

-- i acts in an earlier cycle than j, or in the same cycle and a lower slot
abbrev pub ConflictKept : Schedule → ℕ → ℕ → Type 0
ConflictKept s i j = (s.cycle i ≤ s.cycle j) × (s.cycle i ≡ s.cycle j → s.slot i < s.slot j)

-- every dependence of the program is kept by the schedule
pub record Kept (p : Program) (s : Schedule) : Type 0 where
  pub flow : (r : Register) (i j : ℕ) → Flow p (place.Register r) i j → FlowKept p s i j
  pub anti : (r : Register) (i j : ℕ) → Anti p (place.Register r) i j → AntiKept p s i j
  pub output : (r : Register) (i j : ℕ) → Output p (place.Register r) i j → OutputKept p s i j
  pub in_memory : (i j : ℕ) → Conflict p i j → ConflictKept s i j

-- what is taken of a program and its schedule
pub record Sound (p : Program) (s : Schedule) : Type 0 where
  -- a result takes a cycle at least, and its bounds are in order
  pub takes_time : (i : ℕ) → i < p.size → 1 ≤ p.shortest i
  pub bounds : (i : ℕ) → i < p.size → p.shortest i ≤ p.longest i
  -- no operation both stores and loads
  pub one_way : (i : ℕ) → i < p.size → (p.accesses place.Memory).writes i ≡ true → (p.accesses place.Memory).reads i ≢ true
  -- a cycle has at most 8 slots, and no two memory operations have one slot of one cycle
  pub in_slots : (i : ℕ) → i < p.size → s.slot i < 8
  pub apart : (i j : ℕ) → i < j → j < p.size → uses (p.accesses place.Memory) i ≡ true → uses (p.accesses place.Memory) j ≡ true →
      s.cycle i ≡ s.cycle j → s.slot i ≢ s.slot j

-- kept: at every timing, whatever is withheld, every history is that of written order; and the converse
abbrev pub KeptIsAlwaysSame : Type 0
KeptIsAlwaysSame = (p : Program) (s : Schedule) → Sound p s → Kept p s ↔ AlwaysSame p s

-- the histories with nothing withheld are enough
abbrev pub KeptIsWholeSame : Type 0
KeptIsWholeSame = (p : Program) (s : Schedule) → Sound p s → Kept p s ↔ WholeSame p s

-- a broken dependence of i and j gives its place another history, whatever the other latencies are, with nothing withheld
pub record BrokenShows (p : Program) (s : Schedule) : Type 0 where
  -- where i takes its longest time
  pub flow : (r : Register) (i j : ℕ) → Flow p (place.Register r) i j → ¬ FlowKept p s i j →
      (latency : ℕ → ℕ) → latency i ≡ p.longest i → ¬ Same p s latency (place.Register r) none_withheld
  -- where j takes its shortest time
  pub anti : (r : Register) (i j : ℕ) → Anti p (place.Register r) i j → ¬ AntiKept p s i j →
      (latency : ℕ → ℕ) → latency j ≡ p.shortest j → ¬ Same p s latency (place.Register r) none_withheld
  -- where i takes its longest time and j its shortest
  pub output : (r : Register) (i j : ℕ) → Output p (place.Register r) i j → ¬ OutputKept p s i j →
      (latency : ℕ → ℕ) → latency i ≡ p.longest i → latency j ≡ p.shortest j → ¬ Same p s latency (place.Register r) none_withheld
  -- at all latencies
  pub in_memory : (i j : ℕ) → Conflict p i j → ¬ ConflictKept s i j →
      (latency : ℕ → ℕ) → ¬ Same p s latency place.Memory none_withheld

-- so it is of every program and schedule
abbrev pub BrokenAlwaysShows : Type 0
BrokenAlwaysShows = (p : Program) (s : Schedule) → Sound p s → BrokenShows p s
