-- What the state of the cycle machine is at each moment of a run, for any schedule, where o says what each operation
-- does when it issues. Assumes nothing.
use Rattle.std.proofs.Common.{◌≡◌, ℕ, zero, suc, ◌+◌, ◌*◌, ◌<◌, ◌≤◌, Bool, true, false, cond, ◌&&◌, ◌||◌, eqb, ltb, leb, List, [], ◌∷◌, ◌++◌, sym, refl, ap, ◌∙◌, subst, ap₂, subst₂, arith}
use Rattle.std.proofs.lemmas.Bool.{and_parts, eqb-true, eq-eqb}
use Rattle.histories.specs.Schedule.{position}
use Rattle.runs.specs.Machine.{Outcome, Setup, landing_cycle, Contents, State, in_flight, of_writer, due_in, not_due_in, landed_all, land_below, issue, issue_slot, issue_slots, landed, next_cycle, start, run, after_landings, issue_state, outcomes_of}
use Rattle.runs.specs.Ends.{Timed}
use Rattle.runs.proofs.Folds.{fold_below, fold_times}
use Rattle.runs.proofs.Flight.{last_write, landed_in_flight, of-writer-++, of_writer_in_flight, of_writer_due, of_writer_not_due, due_in_flight, not_due_in_flight}

abbrev pub position_of : {V M F : Type 0} → Setup V M F → ℕ → ℕ
position_of k i = position k.schedule i

-- whether w has issued: at a position before P, or at P and with a number below m
abbrev pub issued : {V M F : Type 0} → Setup V M F → ℕ → ℕ → ℕ → Bool
issued k P m w = ltb w k.program.size && (ltb (position_of k w) P || (eqb (position_of k w) P && ltb w m))

-- the state when the operations `issued k P m` have issued, and the results due before the cycle T have landed
pub record Holds {V M F : Type 0} (k : Setup V M F) (a : Contents V M) (o : ℕ → Outcome V M F) (T P m : ℕ) (st : State V M F) : Type 0 where
  pub registers : (q : ℕ) → st.registers q ≡ fold_times (λ i. last_write q (o i).results) k.program.size (landing_cycle k) T (a.registers q)
  pub memory : st.memory ≡ fold_below (λ i. (o i).change) m (λ i. eqb (position_of k i) P) (fold_times (λ i. (o i).change) k.program.size (position_of k) P a.memory)
  pub flight : (w : ℕ) → of_writer w st.flight ≡ cond (issued k P m w && leb T (landing_cycle k w)) (in_flight (landing_cycle k w) w (o w).results) []
  pub log : (w : ℕ) → outcomes_of w st.log ≡ cond (issued k P m w) (o w ∷ []) []

-- the operation i does what o says where it issues in such a state
abbrev pub Exact : {V M F : Type 0} → Setup V M F → Contents V M → (ℕ → Outcome V M F) → Type 0
Exact {V} {M} {F} k a o = (i : ℕ) → i < k.program.size → (st : State V M F) → Holds k a o (suc (k.schedule.cycle i)) (position_of k i) i st → k.does i st.registers st.memory ≡ o i

append_none : {A : Type 0} (xs : List A) → xs ++ [] ≡ xs
append_none [] = refl
append_none (x ∷ xs) = ap (λ l. x ∷ l) (append_none xs)

module _ {V M F : Type 0} (k : Setup V M F) where
  now_slot : (t b m : ℕ) (st : State V M F) → (issue_slot k t b m st).now ≡ st.now
  now_slot t b zero st = refl
  now_slot t b (suc i) st = by (eqb (k.schedule.cycle i) t && eqb (k.schedule.slot i) b) ∙ now_slot t b i st
    where
      by : (c : Bool) → (cond c (issue k t i (issue_slot k t b i st)) (issue_slot k t b i st)).now ≡ (issue_slot k t b i st).now
      by true = refl
      by false = refl

  now_slots : (t b : ℕ) (st : State V M F) → (issue_slots k t b st).now ≡ st.now
  now_slots t zero st = refl
  now_slots t (suc b) st = now_slot t b k.program.size (issue_slots k t b st) ∙ now_slots t b st

  pub now_run : (a : Contents V M) (t : ℕ) → (run k a t).now ≡ t
  now_run a zero = refl
  now_run a (suc t) = ap suc (now_slots (run k a t).now 8 (landed k (run k a t).now (run k a t)) ∙ now_run a t)

module _ {V M F : Type 0} (k : Setup V M F) (a : Contents V M) (o : ℕ → Outcome V M F) (timed : Timed k) where
  pub takes_time : (i : ℕ) → i < k.program.size → 1 ≤ k.latency i
  takes_time i l = let x = timed.timing i l in let y = timed.sound.takes_time i l in omega arith

  holds_start : Holds k a o 0 0 0 (start a)
  holds_start = record {
    registers = λ q. refl;
    memory = refl;
    flight = λ w. let e : (issued k 0 0 w && leb 0 (landing_cycle k w)) ≡ false = grind arith in ap (λ b. cond b (in_flight (landing_cycle k w) w (o w).results) []) (sym e);
    log = λ w. let e : issued k 0 0 w ≡ false = grind arith in ap (λ b. cond b (o w ∷ []) []) (sym e);
  }

  -- the next position
  holds_next_position : (T P : ℕ) (st : State V M F) → Holds k a o T P k.program.size st → Holds k a o T (suc P) 0 st
  holds_next_position T P st h = record {
    registers = h.registers;
    memory = h.memory;
    flight = λ w. h.flight w ∙ ap (λ b. cond (b && leb T (landing_cycle k w)) (in_flight (landing_cycle k w) w (o w).results) []) (same w);
    log = λ w. h.log w ∙ ap (λ b. cond b (o w ∷ []) []) (same w);
  }
    where
      same : (w : ℕ) → issued k P k.program.size w ≡ issued k (suc P) 0 w
      same w = grind arith

  -- results land
  module _ (t : ℕ) (st : State V M F) (h : Holds k a o t (8 * t) 0 st) where
    due_of : (w : ℕ) → w < k.program.size → of_writer w (due_in t st.flight) ≡ cond (eqb (landing_cycle k w) t) (in_flight (landing_cycle k w) w (o w).results) []
    due_of w l = of_writer_due w t st.flight ∙ ap (due_in t) (h.flight w) ∙ by (eqb (landing_cycle k w) t) refl (issued k (8 * t) 0 w && leb t (landing_cycle k w)) refl
      where
        by : (b : Bool) → eqb (landing_cycle k w) t ≡ b → (c : Bool) → (issued k (8 * t) 0 w && leb t (landing_cycle k w)) ≡ c →
            due_in t (cond c (in_flight (landing_cycle k w) w (o w).results) []) ≡ cond b (in_flight (landing_cycle k w) w (o w).results) []
        by true e true q = due_in_flight t (landing_cycle k w) w (o w).results ∙ ap (λ z. cond z (in_flight (landing_cycle k w) w (o w).results) []) e
        by false e true q = due_in_flight t (landing_cycle k w) w (o w).results ∙ ap (λ z. cond z (in_flight (landing_cycle k w) w (o w).results) []) e
        by true e false q = absurd (let x = takes_time w l in let y = timed.sound.in_slots w l in let z : (issued k (8 * t) 0 w && leb t (landing_cycle k w)) ≡ true = grind arith in grind arith)
        by false e false q = refl

    lands_registers : (q m : ℕ) → m ≤ k.program.size → land_below m (due_in t st.flight) st.registers q ≡ fold_below (λ i. last_write q (o i).results) m (λ i. eqb (landing_cycle k i) t) (st.registers q)
    lands_registers q zero l = refl
    lands_registers q (suc m) l =
        ap (λ fl. landed_all fl (land_below m (due_in t st.flight) st.registers) q) (due_of m (omega arith))
        ∙ by (eqb (landing_cycle k m) t)
        ∙ ap (λ v. cond (eqb (landing_cycle k m) t) (last_write q (o m).results v) v) (lands_registers q m (omega arith))
      where
        by : (b : Bool) → landed_all (cond b (in_flight (landing_cycle k m) m (o m).results) []) (land_below m (due_in t st.flight) st.registers) q
            ≡ cond b (last_write q (o m).results (land_below m (due_in t st.flight) st.registers q)) (land_below m (due_in t st.flight) st.registers q)
        by true = landed_in_flight (landing_cycle k m) m (o m).results (land_below m (due_in t st.flight) st.registers) q
        by false = refl

    not_due_of : (w : ℕ) → of_writer w (not_due_in t st.flight) ≡ cond (issued k (8 * t) 0 w && leb (suc t) (landing_cycle k w)) (in_flight (landing_cycle k w) w (o w).results) []
    not_due_of w = of_writer_not_due w t st.flight ∙ ap (not_due_in t) (h.flight w) ∙ by (eqb (landing_cycle k w) t) refl (issued k (8 * t) 0 w) refl (leb t (landing_cycle k w)) refl
      where
        by : (b : Bool) → eqb (landing_cycle k w) t ≡ b → (c : Bool) → issued k (8 * t) 0 w ≡ c → (d : Bool) → leb t (landing_cycle k w) ≡ d →
            not_due_in t (cond (c && d) (in_flight (landing_cycle k w) w (o w).results) []) ≡ cond (c && leb (suc t) (landing_cycle k w)) (in_flight (landing_cycle k w) w (o w).results) []
        by b e false q d r = refl
        by true e true q true r = not_due_in_flight t (landing_cycle k w) w (o w).results ∙ ap (λ z. cond z [] (in_flight (landing_cycle k w) w (o w).results)) e ∙ ap (λ z. cond z (in_flight (landing_cycle k w) w (o w).results) []) (sym (let x : leb (suc t) (landing_cycle k w) ≡ false = grind arith in x))
        by false e true q true r = not_due_in_flight t (landing_cycle k w) w (o w).results ∙ ap (λ z. cond z [] (in_flight (landing_cycle k w) w (o w).results)) e ∙ ap (λ z. cond z (in_flight (landing_cycle k w) w (o w).results) []) (sym (let x : leb (suc t) (landing_cycle k w) ≡ true = grind arith in x))
        by b e true q false r = ap (λ z. cond z (in_flight (landing_cycle k w) w (o w).results) []) (sym (let x : leb (suc t) (landing_cycle k w) ≡ false = grind arith in x))

    holds_landed : Holds k a o (suc t) (8 * t) 0 (landed k t st)
    holds_landed = record {
      registers = λ q. lands_registers q k.program.size (omega arith) ∙ ap (fold_below (λ i. last_write q (o i).results) k.program.size (λ i. eqb (landing_cycle k i) t)) (h.registers q);
      memory = h.memory;
      flight = not_due_of;
      log = h.log;
    }

  -- an operation issues
  module _ (exact : Exact k a o) where
    module _ (i : ℕ) (l : i < k.program.size) (st : State V M F) (h : Holds k a o (suc (k.schedule.cycle i)) (position_of k i) i st) where
      issue_memory : (issue k (k.schedule.cycle i) i st).memory ≡ fold_below (λ j. (o j).change) (suc i) (λ j. eqb (position_of k j) (position_of k i)) (fold_times (λ j. (o j).change) k.program.size (position_of k) (position_of k i) a.memory)
      issue_memory = ap₂ (λ x m. x.change m) (exact i l st h) h.memory ∙ ap (λ z. cond z ((o i).change before) before) (sym (eq-eqb (position_of k i) (position_of k i) refl))
        where
          before : M
          before = fold_below (λ j. (o j).change) i (λ j. eqb (position_of k j) (position_of k i)) (fold_times (λ j. (o j).change) k.program.size (position_of k) (position_of k i) a.memory)

      not_yet : (w : ℕ) → i ≡ w → issued k (position_of k i) i w ≡ false
      not_yet w e = let x = ap (position_of k) e in grind arith

      now_issued : (w : ℕ) → i ≡ w → issued k (position_of k i) (suc i) w ≡ true
      now_issued w e = let x = ap (position_of k) e in grind arith

      as_before : (w : ℕ) → eqb i w ≡ false → issued k (position_of k i) i w ≡ issued k (position_of k i) (suc i) w
      as_before w e = grind arith

      lands_later : (w : ℕ) → i ≡ w → leb (suc (k.schedule.cycle i)) (landing_cycle k w) ≡ true
      lands_later w e = let x = ap (landing_cycle k) e in let y = takes_time i l in grind arith

      issue_flight : (w : ℕ) → of_writer w (issue k (k.schedule.cycle i) i st).flight ≡ cond (issued k (position_of k i) (suc i) w && leb (suc (k.schedule.cycle i)) (landing_cycle k w)) (in_flight (landing_cycle k w) w (o w).results) []
      issue_flight w =
          of-writer-++ w st.flight (in_flight (landing_cycle k i) i (k.does i st.registers st.memory).results)
          ∙ ap₂ ◌++◌ (h.flight w) (ap (λ x. of_writer w (in_flight (landing_cycle k i) i x.results)) (exact i l st h) ∙ of_writer_in_flight w (landing_cycle k i) i (o i).results)
          ∙ by (eqb i w) refl
        where
          by : (b : Bool) → eqb i w ≡ b →
              cond (issued k (position_of k i) i w && leb (suc (k.schedule.cycle i)) (landing_cycle k w)) (in_flight (landing_cycle k w) w (o w).results) [] ++ cond b (in_flight (landing_cycle k i) i (o i).results) []
              ≡ cond (issued k (position_of k i) (suc i) w && leb (suc (k.schedule.cycle i)) (landing_cycle k w)) (in_flight (landing_cycle k w) w (o w).results) []
          by true e =
              let s : i ≡ w = eqb-true i w e in
              ap (λ z. cond (z && leb (suc (k.schedule.cycle i)) (landing_cycle k w)) (in_flight (landing_cycle k w) w (o w).results) [] ++ in_flight (landing_cycle k i) i (o i).results) (not_yet w s)
              ∙ ap (λ z. in_flight (landing_cycle k z) z (o z).results) s
              ∙ sym (ap₂ (λ y z. cond (y && z) (in_flight (landing_cycle k w) w (o w).results) []) (now_issued w s) (lands_later w s))
          by false e =
              append_none (cond (issued k (position_of k i) i w && leb (suc (k.schedule.cycle i)) (landing_cycle k w)) (in_flight (landing_cycle k w) w (o w).results) [])
              ∙ ap (λ z. cond (z && leb (suc (k.schedule.cycle i)) (landing_cycle k w)) (in_flight (landing_cycle k w) w (o w).results) []) (as_before w e)

      issue_log : (w : ℕ) → outcomes_of w (issue k (k.schedule.cycle i) i st).log ≡ cond (issued k (position_of k i) (suc i) w) (o w ∷ []) []
      issue_log w = ap₂ (λ x f. cond (eqb i w) (x ∷ f) f) (exact i l st h) (h.log w) ∙ by (eqb i w) refl
        where
          by : (b : Bool) → eqb i w ≡ b →
              cond b (o i ∷ cond (issued k (position_of k i) i w) (o w ∷ []) []) (cond (issued k (position_of k i) i w) (o w ∷ []) []) ≡ cond (issued k (position_of k i) (suc i) w) (o w ∷ []) []
          by true e =
              let s : i ≡ w = eqb-true i w e in
              ap₂ (λ x z. o x ∷ cond z (o w ∷ []) []) s (not_yet w s) ∙ sym (ap (λ z. cond z (o w ∷ []) []) (now_issued w s))
          by false e = ap (λ z. cond z (o w ∷ []) []) (as_before w e)

      holds_issue : Holds k a o (suc (k.schedule.cycle i)) (position_of k i) (suc i) (issue k (k.schedule.cycle i) i st)
      holds_issue = record { registers = h.registers; memory = issue_memory; flight = issue_flight; log = issue_log }

    -- an operation that is scheduled elsewhere
    holds_elsewhere : (t b i : ℕ) → i < k.program.size → b < 8 → (st : State V M F) → (eqb (k.schedule.cycle i) t && eqb (k.schedule.slot i) b) ≡ false →
        Holds k a o (suc t) (8 * t + b) i st → Holds k a o (suc t) (8 * t + b) (suc i) st
    holds_elsewhere t b i l bl st e h = record {
      registers = h.registers;
      memory = h.memory ∙ ap (λ z. cond z ((o i).change before) before) (sym elsewhere);
      flight = λ w. h.flight w ∙ ap (λ z. cond (z && leb (suc t) (landing_cycle k w)) (in_flight (landing_cycle k w) w (o w).results) []) (same w);
      log = λ w. h.log w ∙ ap (λ z. cond z (o w ∷ []) []) (same w);
    }
      where
        before : M
        before = fold_below (λ j. (o j).change) i (λ j. eqb (position_of k j) (8 * t + b)) (fold_times (λ j. (o j).change) k.program.size (position_of k) (8 * t + b) a.memory)

        elsewhere : eqb (position_of k i) (8 * t + b) ≡ false
        elsewhere = let x = timed.sound.in_slots i l in grind arith

        same : (w : ℕ) → issued k (8 * t + b) i w ≡ issued k (8 * t + b) (suc i) w
        same w = by (eqb i w) refl
          where
            by : (c : Bool) → eqb i w ≡ c → issued k (8 * t + b) i w ≡ issued k (8 * t + b) (suc i) w
            by true q = let s : i ≡ w = eqb-true i w q in let x : eqb (position_of k w) (8 * t + b) ≡ false = subst (λ z. eqb (position_of k z) (8 * t + b) ≡ false) s elsewhere in grind arith
            by false q = grind arith

    holds_slot : (t b : ℕ) → b < 8 → (st : State V M F) → Holds k a o (suc t) (8 * t + b) 0 st → (m : ℕ) → m ≤ k.program.size →
        Holds k a o (suc t) (8 * t + b) m (issue_slot k t b m st)
    holds_slot t b bl st h zero l = h
    holds_slot t b bl st h (suc i) l = by (eqb (k.schedule.cycle i) t && eqb (k.schedule.slot i) b) refl (holds_slot t b bl st h i (omega arith))
      where
        by : (c : Bool) → (eqb (k.schedule.cycle i) t && eqb (k.schedule.slot i) b) ≡ c → Holds k a o (suc t) (8 * t + b) i (issue_slot k t b i st) →
            Holds k a o (suc t) (8 * t + b) (suc i) (cond c (issue k t i (issue_slot k t b i st)) (issue_slot k t b i st))
        by true e ih =
            let both = and_parts (eqb (k.schedule.cycle i) t) (eqb (k.schedule.slot i) b) e in
            subst₂ (λ x y. Holds k a o (suc x) (8 * x + y) i (issue_slot k t b i st) → Holds k a o (suc x) (8 * x + y) (suc i) (issue k x i (issue_slot k t b i st)))
            (eqb-true (k.schedule.cycle i) t both.0) (eqb-true (k.schedule.slot i) b both.1) (holds_issue i l (issue_slot k t b i st)) ih
        by false e ih = holds_elsewhere t b i l bl (issue_slot k t b i st) e ih

    holds_slots : (t : ℕ) (st : State V M F) → Holds k a o (suc t) (8 * t) 0 st → (b : ℕ) → b ≤ 8 → Holds k a o (suc t) (8 * t + b) 0 (issue_slots k t b st)
    holds_slots t st h zero l = let e : 8 * t ≡ 8 * t + 0 = omega arith in subst (λ P. Holds k a o (suc t) P 0 st) e h
    holds_slots t st h (suc b) l =
        let e : suc (8 * t + b) ≡ 8 * t + suc b = omega arith in
        subst (λ P. Holds k a o (suc t) P 0 (issue_slots k t (suc b) st)) e
        (holds_next_position (suc t) (8 * t + b) (issue_slots k t (suc b) st) (holds_slot t b l (issue_slots k t b st) (holds_slots t st h b (omega arith)) k.program.size (omega arith)))

    holds_next_cycle : (T P m : ℕ) (st : State V M F) → Holds k a o T P m st → Holds k a o T P m (next_cycle st)
    holds_next_cycle T P m st h = record { registers = h.registers; memory = h.memory; flight = h.flight; log = h.log }

    pub holds_run : (t : ℕ) → Holds k a o t (8 * t) 0 (run k a t)
    holds_run zero = holds_start
    holds_run (suc t) =
        let e : 8 * t + 8 ≡ 8 * suc t = omega arith in
        subst₂ (λ z P. Holds k a o (suc t) P 0 (next_cycle (issue_slots k z 8 (landed k z (run k a t))))) (sym (now_run k a t)) e
        (holds_next_cycle (suc t) (8 * t + 8) 0 (issue_slots k t 8 (landed k t (run k a t)))
        (holds_slots t (landed k t (run k a t)) (holds_landed t (run k a t) (holds_run t)) 8 (omega arith)))

    pub holds_landings : (t : ℕ) → Holds k a o (suc t) (8 * t) 0 (after_landings k a t)
    holds_landings t = holds_landed t (run k a t) (holds_run t)

    pub holds_issue_state : (j : ℕ) → j < k.program.size → Holds k a o (suc (k.schedule.cycle j)) (position_of k j) j (issue_state k a j)
    holds_issue_state j l =
        let x = timed.sound.in_slots j l in
        holds_slot (k.schedule.cycle j) (k.schedule.slot j) x (issue_slots k (k.schedule.cycle j) (k.schedule.slot j) (after_landings k a (k.schedule.cycle j)))
        (holds_slots (k.schedule.cycle j) (after_landings k a (k.schedule.cycle j)) (holds_landings (k.schedule.cycle j)) (k.schedule.slot j) (omega arith)) j (omega arith)
