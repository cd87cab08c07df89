-- Two histories written out, and a schedule that keeps the dependences of any program. Assumes nothing.
use Rattle.std.specs.Prelude.{◌≡◌, ℕ, ◌+◌, ◌-◌, ◌*◌, ◌<◌, ◌≤◌, true, cond, ◌||◌, [], ◌∷◌, ◌==◌, ◌≢◌}
use Rattle.registers.specs.declared.register.Register.{Register}
use Rattle.registers.specs.declared.register.Place.TheVariants as place
use Rattle.histories.specs.History.{Accesses, entry, history}
use Rattle.histories.specs.Schedule.{Program, Schedule, written, scheduled, Sound, Kept}

-- 0 writes, 1 reads, 2 reads and writes, 3 writes
abbrev pub four : Accesses
four = record { writes = λ i. (i == 0) || (i == 2 || i == 3); reads = λ i. (i == 1) || (i == 2) }

-- in written order 1 and 2 read what 0 wrote
abbrev pub WrittenExample : Type 0
WrittenExample = history 4 four written ≡ entry [] [] ∷ entry (0 ∷ []) (1 ∷ 2 ∷ []) ∷ entry (2 ∷ []) [] ∷ entry (3 ∷ []) [] ∷ []

-- 0 in cycle 0, then 1, 2 and 3 in cycles 2, 3 and 4
abbrev pub early : Schedule
early = record { cycle = λ i. cond (i == 0) 0 (i + 1); slot = λ i. 0 }

-- the result of 0 lands in cycle 3, those of 2 and 3 land in cycle 6
abbrev pub latencies : ℕ → ℕ
latencies i = cond (i == 0) 3 (5 - i)

-- 1 reads too early, and 2 and 3 land together
abbrev pub ScheduledExample : Type 0
ScheduledExample = (r : Register) →
    history 4 four (scheduled early latencies (place.Register r)) ≡ entry [] (1 ∷ []) ∷ entry (0 ∷ []) (2 ∷ []) ∷ entry (2 ∷ 3 ∷ []) [] ∷ []

-- one operation after the other, d cycles apart
abbrev pub serial : ℕ → Schedule
serial d = record { cycle = λ i. d * i; slot = λ i. 0 }

-- what is assumed of a schedule can be met: one operation after the other keeps every dependence
abbrev pub SerialIsKept : Type 0
SerialIsKept = (p : Program) (d : ℕ) →
    ((i : ℕ) → i < p.size → (1 ≤ p.shortest i) × (p.shortest i ≤ p.longest i) × (p.longest i ≤ d)) →
    ((i : ℕ) → i < p.size → (p.accesses place.Memory).writes i ≡ true → (p.accesses place.Memory).reads i ≢ true) →
    Sound p (serial d) × Kept p (serial d)
