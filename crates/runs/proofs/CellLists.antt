-- The machines on cells do what the machines on registers do. Assumes nothing.
use Rattle.std.proofs.Common.{◌≡◌, ℕ, zero, suc, ◌+◌, ◌<◌, ◌≤◌, Bool, true, false, cond, ◌&&◌, eqb, ltb, List, [], ◌∷◌, ◌++◌, length, get_or, set, sym, refl, ap, ◌∙◌, subst, arith, length-set, get_or-set_other, get_or-set_same, ext_get_or}
use mathlib.Core.Path.{fun_ext}
use Rattle.std.proofs.lemmas.Bool.{and_parts, ltb-true, eqb-true, eqb-false}
use Rattle.runs.specs.Machine.{Write, Outcome, Pending, Setup, with_register, write_all, Contents, after, written_state, State, in_flight, of_writer, due_in, not_due_in, landed_all, land_below, issue, issue_slot, issue_slots, landed, next_cycle, step, run, outcomes_of}
use Rattle.runs.specs.Ends.{Finished, SameEnd}
use Rattle.runs.specs.Cells.{CellContents, CellState, registers_in, write_cells, written_cells, landed_all_cells, land_below_cells, issue_cells, issue_slot_cells, issue_slots_cells, landed_cells, step_cells, run_cells, cells_state, cells_contents, results_within, flight_within, ResultsWithin, Sized, CellsStep, CellsRun, CellsWritten, SameCells, CellsEndAsWritten}
use Rattle.runs.proofs.Ends.{ends_as_written}

module _ {V : Type 0} (d : V) (c : ℕ) where
  registers_in_set : (r : List V) (q : ℕ) (v : V) → length r ≡ c → q < c → registers_in d (set r q v) ≡ with_register (registers_in d r) q v
  registers_in_set r q v e l = fun_ext (λ x. by x (eqb x q) refl)
    where
      by : (x : ℕ) (b : Bool) → eqb x q ≡ b → get_or (set r q v) x d ≡ cond b v (get_or r x d)
      by x true z = ap (λ y. get_or (set r q v) y d) (eqb-true x q z) ∙ get_or-set_same r q v d (omega arith)
      by x false z = get_or-set_other r q x v d (eqb-false x q z)

  write_alike : (xs : List (Write V)) (r : List V) → length r ≡ c → results_within c xs ≡ true → (registers_in d (write_cells xs r) ≡ write_all xs (registers_in d r)) × (length (write_cells xs r) ≡ c)
  write_alike [] r e h = (refl, e)
  write_alike (x ∷ xs) r e h =
      let both = and_parts (ltb x.to c) (results_within c xs) h in
      let ih = write_alike xs (set r x.to x.value) (length-set r x.to x.value ∙ e) both.1 in
      (ih.0 ∙ ap (write_all xs) (registers_in_set r x.to x.value e (ltb-true x.to c both.0)), ih.1)

  landed_all_alike : (xs : List (Pending V)) (r : List V) → length r ≡ c → flight_within c xs ≡ true → (registers_in d (landed_all_cells xs r) ≡ landed_all xs (registers_in d r)) × (length (landed_all_cells xs r) ≡ c)
  landed_all_alike [] r e h = (refl, e)
  landed_all_alike (x ∷ xs) r e h =
      let both = and_parts (ltb x.to c) (flight_within c xs) h in
      let ih = landed_all_alike xs (set r x.to x.value) (length-set r x.to x.value ∙ e) both.1 in
      (ih.0 ∙ ap (landed_all xs) (registers_in_set r x.to x.value e (ltb-true x.to c both.0)), ih.1)

module _ {V : Type 0} (c : ℕ) where
  in_cond : (b : Bool) (x : Pending V) (xs ys : List (Pending V)) → (ltb x.to c && flight_within c xs) ≡ true → flight_within c ys ≡ true → flight_within c (cond b (x ∷ xs) ys) ≡ true
  in_cond true x xs ys g h = g
  in_cond false x xs ys g h = h

  in_of_writer : (w : ℕ) (xs : List (Pending V)) → flight_within c xs ≡ true → flight_within c (of_writer w xs) ≡ true
  in_of_writer w [] h = refl
  in_of_writer w (x ∷ xs) h =
      let ih = in_of_writer w xs in
      in_cond (eqb x.writer w) x (of_writer w xs) (of_writer w xs) (grind arith) (grind arith)

  in_due : (t : ℕ) (xs : List (Pending V)) → flight_within c xs ≡ true → flight_within c (due_in t xs) ≡ true
  in_due t [] h = refl
  in_due t (x ∷ xs) h =
      let ih = in_due t xs in
      in_cond (eqb x.due t) x (due_in t xs) (due_in t xs) (grind arith) (grind arith)

  in_not_due : (t : ℕ) (xs : List (Pending V)) → flight_within c xs ≡ true → flight_within c (not_due_in t xs) ≡ true
  in_not_due t [] h = refl
  in_not_due t (x ∷ xs) h = by (eqb x.due t) (in_not_due t xs (and_parts (ltb x.to c) (flight_within c xs) h).1)
    where
      by : (b : Bool) → flight_within c (not_due_in t xs) ≡ true → flight_within c (cond b (not_due_in t xs) (x ∷ not_due_in t xs)) ≡ true
      by true ih = ih
      by false ih = let g = (and_parts (ltb x.to c) (flight_within c xs) h).0 in grind arith

  in-++ : (xs ys : List (Pending V)) → flight_within c xs ≡ true → flight_within c ys ≡ true → flight_within c (xs ++ ys) ≡ true
  in-++ [] ys g h = h
  in-++ (x ∷ xs) ys g h = let ih = in-++ xs ys in grind arith

  in_in_flight : (e i : ℕ) (xs : List (Write V)) → results_within c xs ≡ true → flight_within c (in_flight e i xs) ≡ true
  in_in_flight e i [] h = refl
  in_in_flight e i (x ∷ xs) h = let ih = in_in_flight e i xs in grind arith

module _ {V : Type 0} (d : V) (c : ℕ) where
  land_alike : (m : ℕ) (fl : List (Pending V)) (r : List V) → length r ≡ c → flight_within c fl ≡ true → (registers_in d (land_below_cells m fl r) ≡ land_below m fl (registers_in d r)) × (length (land_below_cells m fl r) ≡ c)
  land_alike zero fl r e h = (refl, e)
  land_alike (suc w) fl r e h =
      let ih = land_alike w fl r e h in
      let s = landed_all_alike d c (of_writer w fl) (land_below_cells w fl r) ih.1 (in_of_writer c w fl h) in
      (s.0 ∙ ap (landed_all (of_writer w fl)) ih.0, s.1)

module _ {V M F : Type 0} (d : V) (k : Setup V M F) (c : ℕ) (fits : ResultsWithin c k) where
  issue_sized : (t i : ℕ) → i < k.program.size → (st : CellState V M F) → Sized c st → Sized c (issue_cells d k t i st)
  issue_sized t i l st z = record {
    cells = z.cells;
    flight = in-++ c st.flight (in_flight (t + k.latency i) i (k.does i (registers_in d st.cells) st.memory).results) z.flight
        (in_in_flight c (t + k.latency i) i (k.does i (registers_in d st.cells) st.memory).results (fits i l (registers_in d st.cells) st.memory));
  }

  issue_slot_alike : (t b m : ℕ) → m ≤ k.program.size → (st : CellState V M F) → Sized c st → (cells_state d (issue_slot_cells d k t b m st) ≡ issue_slot k t b m (cells_state d st)) × Sized c (issue_slot_cells d k t b m st)
  issue_slot_alike t b zero l st z = (refl, z)
  issue_slot_alike t b (suc i) l st z = by (eqb (k.schedule.cycle i) t && eqb (k.schedule.slot i) b) (issue_slot_alike t b i (omega arith) st z)
    where
      by : (y : Bool) → (cells_state d (issue_slot_cells d k t b i st) ≡ issue_slot k t b i (cells_state d st)) × Sized c (issue_slot_cells d k t b i st) →
          (cells_state d (cond y (issue_cells d k t i (issue_slot_cells d k t b i st)) (issue_slot_cells d k t b i st)) ≡ cond y (issue k t i (issue_slot k t b i (cells_state d st))) (issue_slot k t b i (cells_state d st)))
          × Sized c (cond y (issue_cells d k t i (issue_slot_cells d k t b i st)) (issue_slot_cells d k t b i st))
      by true ih = (ap (issue k t i) ih.0, issue_sized t i l (issue_slot_cells d k t b i st) ih.1)
      by false ih = ih

  issue_slots_alike : (t b : ℕ) (st : CellState V M F) → Sized c st → (cells_state d (issue_slots_cells d k t b st) ≡ issue_slots k t b (cells_state d st)) × Sized c (issue_slots_cells d k t b st)
  issue_slots_alike t zero st z = (refl, z)
  issue_slots_alike t (suc b) st z =
      let ih = issue_slots_alike t b st z in
      let f = issue_slot_alike t b k.program.size (omega arith) (issue_slots_cells d k t b st) ih.1 in
      (f.0 ∙ ap (issue_slot k t b k.program.size) ih.0, f.1)

  landed_alike : (t : ℕ) (st : CellState V M F) → Sized c st → (cells_state d (landed_cells k t st) ≡ landed k t (cells_state d st)) × Sized c (landed_cells k t st)
  landed_alike t st z =
      let x = land_alike d c k.program.size (due_in t st.flight) st.cells z.cells (in_due c t st.flight z.flight) in
      (ap (λ r. shown r) x.0, record { cells = x.1; flight = in_not_due c t st.flight z.flight })
    where
      shown : (ℕ → V) → State V M F
      shown r = record { now = st.now; registers = r; flight = not_due_in t st.flight; memory = st.memory; log = st.log }

  step_alike : (st : CellState V M F) → Sized c st → (cells_state d (step_cells d k st) ≡ step k (cells_state d st)) × Sized c (step_cells d k st)
  step_alike st z =
      let x = landed_alike st.now st z in
      let y = issue_slots_alike st.now 8 (landed_cells k st.now st) x.1 in
      (ap next_cycle (y.0 ∙ ap (issue_slots k st.now 8) x.0), record { cells = y.1.cells; flight = y.1.flight })

  run_alike : (a : CellContents V M) → length a.cells ≡ c → (t : ℕ) → (cells_state d (run_cells d k a t) ≡ run k (cells_contents d a) t) × Sized c (run_cells d k a t)
  run_alike a e zero = (refl, record { cells = e; flight = refl })
  run_alike a e (suc t) =
      let ih = run_alike a e t in
      let s = step_alike (run_cells d k a t) ih.1 in
      (s.0 ∙ ap (step k) ih.0, s.1)

  written_alike : (a : CellContents V M) → length a.cells ≡ c → (i : ℕ) → i ≤ k.program.size → (cells_contents d (written_cells d k a i) ≡ written_state k (cells_contents d a) i) × (length (written_cells d k a i).cells ≡ c)
  written_alike a e zero l = (refl, e)
  written_alike a e (suc i) l =
      let ih = written_alike a e i (omega arith) in
      let o : Outcome V M F = k.does i (registers_in d (written_cells d k a i).cells) (written_cells d k a i).memory in
      let p = write_alike d c o.results (written_cells d k a i).cells ih.1 (fits i l (registers_in d (written_cells d k a i).cells) (written_cells d k a i).memory) in
      (ap (λ r. shown r) p.0 ∙ ap (λ s. after (k.does i s.registers s.memory) s) ih.0, p.1)
    where
      shown : (ℕ → V) → Contents V M
      shown r = record { registers = r; memory = (k.does i (registers_in d (written_cells d k a i).cells) (written_cells d k a i).memory).change (written_cells d k a i).memory }

  cells_end : (a : CellContents V M) → length a.cells ≡ c → (t : ℕ) → SameEnd k (cells_contents d a) (run k (cells_contents d a) t) → SameCells d k a (run_cells d k a t)
  cells_end a e t s =
      let n : ℕ = k.program.size in
      let r = run_alike a e t in
      let w = written_alike a e n (omega arith) in
      record {
        cells = ext_get_or d (run_cells d k a t).cells (written_cells d k a n).cells (r.1.cells ∙ sym w.1)
            (λ q l. ap (λ x. x.registers q) r.0 ∙ s.registers q ∙ sym (ap (λ x. x.registers q) w.0));
        memory = ap (λ x. x.memory) r.0 ∙ s.memory ∙ sym (ap (λ x. x.memory) w.0);
        outcomes = λ i l. ap (λ x. outcomes_of i x.log) r.0 ∙ s.outcomes i l ∙ ap (λ x. k.does i x.registers x.memory ∷ []) (sym (written_alike a e i (omega arith)).0);
      }

pub cells_step : (V M F : Type 0) → CellsStep V M F
cells_step V M F d k c fits st z = step_alike d k c fits st z

pub cells_end_as_written : (V M F : Type 0) → CellsEndAsWritten V M F
cells_end_as_written V M F d k c fits timed within same a e t fin =
    cells_end d k c fits a e t (ends_as_written V M F k timed within same (cells_contents d a) t (subst (Finished k t) (run_alike d k c fits a e t).0 fin))

pub cells_run : (V M F : Type 0) → CellsRun V M F
cells_run V M F d k c fits a e t =
    let r = run_alike d k c fits a e t in
    (r.0, (landed_alike d k c fits t (run_cells d k a t) r.1).0 ∙ ap (landed k t) r.0)

pub cells_as_written : (V M F : Type 0) → CellsWritten V M F
cells_as_written V M F d k c fits a e i l = written_alike d k c fits a e i l
