-- Where the histories are those of written order, each operation finds what it finds in written order, and the ends are the same.
-- Assumes nothing.
use Rattle.std.proofs.Common.{◌≡◌, ℕ, zero, suc, ◌+◌, ◌*◌, ◌<◌, ◌≤◌, Bool, true, false, cond, ◌&&◌, ◌||◌, eqb, ltb, leb, ◌⊎◌, ◌↔◌, [], ◌∷◌, is_some, sym, refl, ap, ◌∙◌, ap₂, inl, inr, arith}
use Rattle.std.proofs.lemmas.Bool.{cases_lt, both_ways, ne_eqb, or_left, or_right}
use Rattle.histories.specs.History.{Agree}
use Rattle.registers.specs.declared.register.Place.{Place}
use Rattle.registers.specs.declared.register.Place.TheVariants as place
use Rattle.histories.specs.Schedule.{written, scheduled}
use Rattle.histories.proofs.Order.{history_decides}
use Rattle.runs.specs.Machine.{Outcome, Setup, register_accesses, memory_accesses, landing_cycle, writes_to, Contents, written_state, written_outcome, State, in_flight, of_writer, run, issue_state, outcomes_of}
use Rattle.runs.specs.Ends.{WithinAccesses, Timed, SameHistories, AlwaysEndsAsWritten, Finished, SameEnd, EndsAsWritten, issued_by, InProgress, RunsAsWritten, SameReads, ReadsAsWritten, FaultAsWritten, LowestOfOutcomes}
use Rattle.runs.proofs.Folds.{fold_below, fold_times, fold_cong, fold_none, fold_to, times_rise}
use Rattle.runs.proofs.Flight.{last_write, write_all_at, last_write_none, nothing_in_flight}
use Rattle.runs.proofs.Finish.{run_finishes, any_fault, lowest_listed, first_cong}
use Rattle.runs.proofs.Invariant.{position_of, issued, Holds, Exact, holds_run, holds_issue_state}

-- written order, register by register
module _ {V M F : Type 0} (k : Setup V M F) (a : Contents V M) where
  pub written_registers : (j q : ℕ) → (written_state k a j).registers q ≡ fold_below (λ i. last_write q (written_outcome k a i).results) j (λ i. true) (a.registers q)
  written_registers zero q = refl
  written_registers (suc j) q = write_all_at (written_outcome k a j).results (written_state k a j).registers q ∙ ap (last_write q (written_outcome k a j).results) (written_registers j q)

  pub written_memory : (j : ℕ) → (written_state k a j).memory ≡ fold_below (λ i. (written_outcome k a i).change) j (λ i. true) a.memory
  written_memory zero = refl
  written_memory (suc j) = ap (written_outcome k a j).change (written_memory j)

-- an outcome leaves alone what the operation does not write
pub record LeavesAlone {V M F : Type 0} (k : Setup V M F) (o : ℕ → Outcome V M F) : Type 0 where
  pub in_registers : (i q : ℕ) → i < k.program.size → (register_accesses k q).writes i ≡ false → (v : V) → last_write q (o i).results v ≡ v
  pub in_memory : (i : ℕ) → i < k.program.size → (memory_accesses k).writes i ≡ false → (m : M) → (o i).change m ≡ m

module _ {V M F : Type 0} (k : Setup V M F) (timed : Timed k) (same : SameHistories k) where
  agree : (x : Place) → Agree k.program.size (k.program.accesses x) (scheduled k.schedule k.latency x) written
  agree x = history_decides k.program.size (k.program.accesses x) (scheduled k.schedule k.latency x) written (same x)

  module _ (a : Contents V M) (o : ℕ → Outcome V M F) (leaves : LeavesAlone k o) where
    registers_in_order : (q t : ℕ) (v : V) → fold_times (λ i. last_write q (o i).results) k.program.size (landing_cycle k) t v ≡ fold_below (λ i. last_write q (o i).results) k.program.size (λ i. ltb (landing_cycle k i) t) v
    registers_in_order q t v = times_rise (λ i. last_write q (o i).results) (register_accesses k q).writes k.program.size (landing_cycle k) v
        (λ i l e x. leaves.in_registers i q l e x)
        (λ i j l m wi wj lt. let x = ((agree (place.Register (k.register_of q))).order j i m l wj wi).0 (omega arith) in omega arith) t

    memory_in_order : (t : ℕ) (m : M) → fold_times (λ i. (o i).change) k.program.size (position_of k) t m ≡ fold_below (λ i. (o i).change) k.program.size (λ i. ltb (position_of k i) t) m
    memory_in_order t m = times_rise (λ i. (o i).change) (memory_accesses k).writes k.program.size (position_of k) m
        (λ i l e x. leaves.in_memory i l e x)
        (λ i j l h wi wj lt. let x = ((agree place.Memory).order j i h l wj wi).0 lt in omega arith) t

    -- what an operation finds in a register that it reads
    pub registers_found : (j q : ℕ) → j < k.program.size → (register_accesses k q).reads j ≡ true → (st : State V M F) → Holds k a o (suc (k.schedule.cycle j)) (position_of k j) j st →
        st.registers q ≡ fold_below (λ i. last_write q (o i).results) j (λ i. true) (a.registers q)
    registers_found j q l rj st h =
        h.registers q
        ∙ registers_in_order q (suc (k.schedule.cycle j)) (a.registers q)
        ∙ fold_cong (λ i. last_write q (o i).results) k.program.size (λ i. ltb (landing_cycle k i) (suc (k.schedule.cycle j))) (λ i. ltb i j) (a.registers q) (λ i m. by i m ((register_accesses k q).writes i) refl)
        ∙ fold_to (λ i. last_write q (o i).results) k.program.size j (a.registers q) (omega arith)
      where
        iff : (x y i j : ℕ) → (2 * x ≤ 2 * y + 1) ↔ (2 * i + 1 ≤ 2 * j) → ltb x (suc y) ≡ ltb i j
        iff x y i j e = grind arith

        by : (i : ℕ) → i < k.program.size → (b : Bool) → (register_accesses k q).writes i ≡ b →
            (ltb (landing_cycle k i) (suc (k.schedule.cycle j)) ≡ ltb i j) ⊎ ((v : V) → last_write q (o i).results v ≡ v)
        by i m true e = inl (iff (landing_cycle k i) (k.schedule.cycle j) i j ((agree (place.Register (k.register_of q))).seen i j m l e rj))
        by i m false e = inr (leaves.in_registers i q m e)

    -- and in memory
    pub memory_found : (j : ℕ) → j < k.program.size → (memory_accesses k).reads j ≡ true → (st : State V M F) → Holds k a o (suc (k.schedule.cycle j)) (position_of k j) j st →
        st.memory ≡ fold_below (λ i. (o i).change) j (λ i. true) a.memory
    memory_found j l rj st h =
        h.memory
        ∙ fold_none (λ i. (o i).change) j (λ i. eqb (position_of k i) (position_of k j)) (fold_times (λ i. (o i).change) k.program.size (position_of k) (position_of k j) a.memory) (λ i m. alone i m ((memory_accesses k).writes i) refl)
        ∙ memory_in_order (position_of k j) a.memory
        ∙ fold_cong (λ i. (o i).change) k.program.size (λ i. ltb (position_of k i) (position_of k j)) (λ i. ltb i j) a.memory (λ i m. by i m ((memory_accesses k).writes i) refl)
        ∙ fold_to (λ i. (o i).change) k.program.size j a.memory (omega arith)
      where
        apart : (i : ℕ) → i < j → (memory_accesses k).writes i ≡ true → position_of k i ≡ position_of k j → ⊥
        apart i m wi e =
            let x = timed.sound.in_slots i (omega arith) in
            let y = timed.sound.in_slots j l in
            timed.sound.apart i j m l (or_left _ _ wi) (or_right _ _ rj) (omega arith) (omega arith)

        alone : (i : ℕ) → i < j → (b : Bool) → (memory_accesses k).writes i ≡ b → (eqb (position_of k i) (position_of k j) ≡ false) ⊎ ((m : M) → (o i).change m ≡ m)
        alone i m true e = inl (ne_eqb (position_of k i) (position_of k j) (apart i m e))
        alone i m false e = inr (leaves.in_memory i (omega arith) e)

        iff : (x y i : ℕ) → (x ≤ y) ↔ (2 * i + 1 ≤ 2 * j) → (i < j → x ≡ y → ⊥) → ltb x y ≡ ltb i j
        iff x y i e d = elim (cases_lt i j) [
          | inl z ↦ (let p = e.1 (omega arith) in let q = d z in grind arith)
          | inr z ↦ (let p : y < x = elim (cases_lt y x) [ inl g ↦ g | inr g ↦ absurd (let u = e.0 g in omega arith) ] in grind arith)
        ]

        by : (i : ℕ) → i < k.program.size → (b : Bool) → (memory_accesses k).writes i ≡ b → (ltb (position_of k i) (position_of k j) ≡ ltb i j) ⊎ ((m : M) → (o i).change m ≡ m)
        by i m true e = inl (iff (position_of k i) (position_of k j) i ((agree place.Memory).seen i j m l e rj) (λ z. apart i z e))
        by i m false e = inr (leaves.in_memory i m e)

    -- the end of a run
    module _ (t : ℕ) (st : State V M F) (h : Holds k a o t (8 * t) 0 st) (fin : Finished k t st) where
      all_issued : (i : ℕ) → i < k.program.size → issued k (8 * t) 0 i ≡ true
      all_issued i l = let x = fin.issued i l in let y = timed.sound.in_slots i l in grind arith

      end_registers : (q : ℕ) → st.registers q ≡ fold_below (λ i. last_write q (o i).results) k.program.size (λ i. true) (a.registers q)
      end_registers q =
          h.registers q
          ∙ registers_in_order q t (a.registers q)
          ∙ fold_cong (λ i. last_write q (o i).results) k.program.size (λ i. ltb (landing_cycle k i) t) (λ i. true) (a.registers q) (λ i l. by i l (leb t (landing_cycle k i)) refl)
        where
          by : (i : ℕ) → i < k.program.size → (b : Bool) → leb t (landing_cycle k i) ≡ b → (ltb (landing_cycle k i) t ≡ true) ⊎ ((v : V) → last_write q (o i).results v ≡ v)
          by i l false e = inl (grind arith)
          by i l true e = inr (nothing_in_flight (landing_cycle k i) i (o i).results (
              ap (of_writer i) (sym fin.empty) ∙ h.flight i ∙ ap₂ (λ x y. cond (x && y) (in_flight (landing_cycle k i) i (o i).results) []) (all_issued i l) e) q)

      end_memory : st.memory ≡ fold_below (λ i. (o i).change) k.program.size (λ i. true) a.memory
      end_memory =
          h.memory
          ∙ memory_in_order (8 * t) a.memory
          ∙ fold_cong (λ i. (o i).change) k.program.size (λ i. ltb (position_of k i) (8 * t)) (λ i. true) a.memory (λ i l. inl (let x = fin.issued i l in let y = timed.sound.in_slots i l in grind arith))

      end_log : (i : ℕ) → i < k.program.size → outcomes_of i st.log ≡ o i ∷ []
      end_log i l = h.log i ∙ ap (λ z. cond z (o i ∷ []) []) (all_issued i l)

  module _ (within : WithinAccesses k) (a : Contents V M) where
    written_leaves : LeavesAlone k (written_outcome k a)
    written_leaves = record {
      in_registers = λ i q l e v. last_write_none q (written_outcome k a i).results v (not_written i q l e (writes_to q (written_outcome k a i).results) refl);
      in_memory = λ i l e m. within.only_memory i l (written_state k a i).registers (written_state k a i).memory m e;
    }
      where
        not_written : (i q : ℕ) → i < k.program.size → (register_accesses k q).writes i ≡ false → (b : Bool) → writes_to q (written_outcome k a i).results ≡ b → writes_to q (written_outcome k a i).results ≡ false
        not_written i q l e false z = z
        not_written i q l e true z = absurd (both_ways ((register_accesses k q).writes i) e (within.only_registers i q l (written_state k a i).registers (written_state k a i).memory z))

    reads_registers : (j q : ℕ) → j < k.program.size → (register_accesses k q).reads j ≡ true → (st : State V M F) → Holds k a (written_outcome k a) (suc (k.schedule.cycle j)) (position_of k j) j st →
        st.registers q ≡ (written_state k a j).registers q
    reads_registers j q l rj st h = registers_found a (written_outcome k a) written_leaves j q l rj st h ∙ sym (written_registers k a j q)

    reads_memory : (j : ℕ) → j < k.program.size → (memory_accesses k).reads j ≡ true → (st : State V M F) → Holds k a (written_outcome k a) (suc (k.schedule.cycle j)) (position_of k j) j st →
        st.memory ≡ (written_state k a j).memory
    reads_memory j l rj st h = memory_found a (written_outcome k a) written_leaves j l rj st h ∙ sym (written_memory k a j)

    exact : Exact k a (written_outcome k a)
    exact j l st h = within.depends j l st.registers (written_state k a j).registers st.memory (written_state k a j).memory (λ q rj. reads_registers j q l rj st h) (λ rj. reads_memory j l rj st h)

    in_progress : (t : ℕ) → InProgress k a t
    in_progress t =
        let h : Holds k a (written_outcome k a) t (8 * t) 0 (run k a t) = holds_run k a (written_outcome k a) timed exact t in
        record {
          log = λ w. h.log w ∙ ap (λ z. cond z (written_outcome k a w ∷ []) []) (issued_is w);
          flight = λ w. h.flight w ∙ ap (λ z. cond (z && leb t (landing_cycle k w)) (in_flight (landing_cycle k w) w (written_outcome k a w).results) []) (issued_is w);
        }
      where
        issued_is : (w : ℕ) → issued k (8 * t) 0 w ≡ issued_by k t w
        issued_is w = elim (cases_lt w k.program.size) [
          | inl l ↦ (let y = timed.sound.in_slots w l in grind arith)
          | inr l ↦ grind arith
        ]

    same_reads : (j : ℕ) → j < k.program.size → SameReads k a j
    same_reads j l = record {
      registers = λ q rj. reads_registers j q l rj (issue_state k a j) (holds_issue_state k a (written_outcome k a) timed exact j l);
      memory = λ rj. reads_memory j l rj (issue_state k a j) (holds_issue_state k a (written_outcome k a) timed exact j l);
    }

    same_end : (t : ℕ) → Finished k t (run k a t) → SameEnd k a (run k a t)
    same_end t fin =
        let h : Holds k a (written_outcome k a) t (8 * t) 0 (run k a t) = holds_run k a (written_outcome k a) timed exact t in
        record {
          registers = λ q. end_registers a (written_outcome k a) written_leaves t (run k a t) h fin q ∙ sym (written_registers k a k.program.size q);
          memory = end_memory a (written_outcome k a) written_leaves t (run k a t) h fin ∙ sym (written_memory k a k.program.size);
          outcomes = end_log a (written_outcome k a) written_leaves t (run k a t) h fin;
        }

pub ends_as_written : (V M F : Type 0) → EndsAsWritten V M F
ends_as_written V M F k timed within same a t fin = same_end k timed same within a t fin

pub reads_as_written : (V M F : Type 0) → ReadsAsWritten V M F
reads_as_written V M F k timed within same a j l = same_reads k timed same within a j l

pub lowest_of_outcomes : (V M F : Type 0) → LowestOfOutcomes V M F
lowest_of_outcomes V M F n log o each =
    lowest_listed n log
    ∙ first_cong n (λ w. any_fault (outcomes_of w log)) (λ i. is_some (o i).fault) (λ i l. ap any_fault (each i l) ∙ or_false (is_some (o i).fault))
  where
    or_false : (b : Bool) → (b || false) ≡ b
    or_false b = grind arith

pub fault_as_written : (V M F : Type 0) → FaultAsWritten V M F
fault_as_written V M F k timed within same a t fin =
    lowest_of_outcomes V M F k.program.size (run k a t).log (written_outcome k a) (same_end k timed same within a t fin).outcomes

pub always_ends_as_written_lem : (V M F : Type 0) → AlwaysEndsAsWritten V M F
always_ends_as_written_lem V M F k timed within whole a t last =
    let fin : Finished k t (run k a t) = run_finishes V M F k timed a t (λ i l. landed_before i l) in
    (fin, same_end k timed (λ x. whole k.latency timed.timing x) within a t fin)
  where
    landed_before : (i : ℕ) → i < k.program.size → landing_cycle k i < t
    landed_before i l =
        let x = timed.timing i l in
        let y = last i l in
        omega arith

pub runs_as_written_lem : (V M F : Type 0) → RunsAsWritten V M F
runs_as_written_lem V M F k timed within same a t = in_progress k timed same within a t
