-- Marks: in any schedule that of the last landing, in written order that of the highest writer below. Assumes nothing.
use Rattle.std.proofs.Common.{◌≡◌, ℕ, zero, suc, ◌+◌, ◌*◌, ◌<◌, ◌≤◌, Bool, true, false, cond, ◌&&◌, eqb, ltb, ◌⊎◌, List, [], ◌∷◌, ◌++◌, sym, refl, ap, ◌∙◌, subst, inl, inr, arith}
use Rattle.std.proofs.lemmas.Bool.{cases_lt, both_ways, eqb-true, eqb-false}
use Rattle.registers.specs.declared.register.Register.{Register}
use Rattle.registers.specs.declared.register.Place.TheVariants as place
use Rattle.histories.specs.Schedule.{Program, Schedule, position}
use Rattle.runs.specs.Machine.{Write, issue_state}
use Rattle.runs.specs.Ends.{Timed, SameHistories}
use Rattle.runs.specs.Marks.{mark_results, mark_outcome, marking, unmarked, highest, HighestMarks, MarksAsWritten, LastMark, MarksByLanding, MarksByPosition}
use Rattle.runs.proofs.Folds.{fold_below, fold_times}
use Rattle.runs.proofs.Flight.{last_write}
use Rattle.runs.proofs.Invariant.{position_of, Holds, Exact, holds_run, holds_landings, holds_issue_state}
use Rattle.runs.proofs.Ends.{LeavesAlone, registers_found, memory_found}

last-write-++ : {V : Type 0} (q : ℕ) (xs ys : List (Write V)) (v : V) → last_write q (xs ++ ys) v ≡ last_write q ys (last_write q xs v)
last-write-++ q [] ys v = refl
last-write-++ q (x ∷ xs) ys v = last-write-++ q xs ys (cond (eqb q x.to) x.value v)

mark_at : (c : ℕ) (w : ℕ → Bool) (i q v : ℕ) → last_write q (mark_results c w i) v ≡ cond (ltb q c && w q) i v
mark_at zero w i q v = grind arith
mark_at (suc c) w i q v = last-write-++ q (mark_results c w i) (cond (w c) (record { to = c; value = i } ∷ []) []) v ∙ by (w c) refl (mark_at c w i q v)
  where
    by : (b : Bool) → w c ≡ b → last_write q (mark_results c w i) v ≡ cond (ltb q c && w q) i v →
        last_write q (cond b (record { to = c; value = i } ∷ []) []) (last_write q (mark_results c w i) v) ≡ cond (ltb q (suc c) && w q) i v
    by true e ih = grind arith
    by false e ih = grind arith

mark_in : (c : ℕ) (w : ℕ → Bool) (i q v : ℕ) → q < c → last_write q (mark_results c w i) v ≡ cond (w q) i v
mark_in c w i q v l = let e = mark_at c w i q v in grind arith

highest_is : (f : ℕ → ℕ → ℕ) (w : ℕ → Bool) → ((i v : ℕ) → f i v ≡ cond (w i) i v) → (j : ℕ) → fold_below f j (λ i. true) 64 ≡ highest j w
highest_is f w e zero = refl
highest_is f w e (suc j) = e j (fold_below f j (λ i. true) 64) ∙ ap (cond (w j) j) (highest_is f w e j)

module _ (c : ℕ) (register_of : ℕ → Register) (p : Program) (s : Schedule) (latency : ℕ → ℕ) (timed : Timed (marking c register_of p s latency)) where
  mark_exact : Exact (marking c register_of p s latency) unmarked (mark_outcome c register_of p)
  mark_exact i l st h = refl

  mark_leaves : LeavesAlone (marking c register_of p s latency) (mark_outcome c register_of p)
  mark_leaves = record {
    in_registers = λ i q l e v. let x = mark_at c (λ r. (p.accesses (place.Register (register_of r))).writes i) i q v in grind arith;
    in_memory = λ i l e m. ap (λ b. cond b i m) e;
  }

  as_written : SameHistories (marking c register_of p s latency) → (j : ℕ) → j < p.size → HighestMarks c (marking c register_of p s latency) j
  as_written same j l = record {
    registers = λ q ql rj. registers_found (marking c register_of p s latency) timed same unmarked (mark_outcome c register_of p) mark_leaves j q l rj (issue_state (marking c register_of p s latency) unmarked j) held
        ∙ highest_is (λ i. last_write q (mark_outcome c register_of p i).results) (p.accesses (place.Register (register_of q))).writes (λ i v. mark_in c (λ r. (p.accesses (place.Register (register_of r))).writes i) i q v ql) j;
    memory = λ rj. memory_found (marking c register_of p s latency) timed same unmarked (mark_outcome c register_of p) mark_leaves j l rj (issue_state (marking c register_of p s latency) unmarked j) held
        ∙ highest_is (λ i. (mark_outcome c register_of p i).change) (p.accesses place.Memory).writes (λ i v. refl) j;
  }
    where
      held : Holds (marking c register_of p s latency) unmarked (mark_outcome c register_of p) (suc (s.cycle j)) (position_of (marking c register_of p s latency) j) j (issue_state (marking c register_of p s latency) unmarked j)
      held = holds_issue_state (marking c register_of p s latency) unmarked (mark_outcome c register_of p) timed mark_exact j l

-- the last by time and number, among those with a time before T, or at T and a number below m
abbrev In : (ℕ → ℕ) → ℕ → ℕ → ℕ → Type 0
In at T m i = (at i ≤ T) × (at i ≡ T → i < m)

abbrev LastSoFar : ℕ → (ℕ → Bool) → (ℕ → ℕ) → ℕ → ℕ → ℕ → Type 0
LastSoFar n w at T m v =
    ((v ≡ 64) × ((i : ℕ) → i < n → w i ≡ true → In at T m i → ⊥))
    ⊎ ((v < n) × (w v ≡ true) × In at T m v × ((i : ℕ) → i < n → w i ≡ true → In at T m i → (at i ≤ at v) × (at i ≡ at v → i ≤ v)))

module _ (n : ℕ) (w : ℕ → Bool) (at : ℕ → ℕ) where
  -- where the same numbers are in
  same_numbers : (T m T' m' v : ℕ) → ((i : ℕ) → i < n → w i ≡ true → In at T m i → In at T' m' i) → ((i : ℕ) → i < n → w i ≡ true → In at T' m' i → In at T m i) → LastSoFar n w at T m v → LastSoFar n w at T' m' v
  same_numbers T m T' m' v to back (inl x) = inl (x.0, λ i l e h. x.1 i l e (back i l e h))
  same_numbers T m T' m' v to back (inr x) = inr (x.0, x.1, to v x.0 x.1 x.2, λ i l e h. x.3 i l e (back i l e h))

  next_time : (T v : ℕ) → LastSoFar n w at T n v → LastSoFar n w at (suc T) 0 v
  next_time T v = same_numbers T n (suc T) 0 v (λ i l e h. omega arith) (λ i l e h. (before_next i T h, λ z. l))
    where
      before_next : (i T : ℕ) → In at (suc T) 0 i → at i ≤ T
      before_next i T h = elim (cases_lt T (at i)) [ inl g ↦ absurd (let x = h.1 (omega arith) in omega arith) | inr g ↦ g ]

  module _ (f : ℕ → ℕ → ℕ) (e : (i v : ℕ) → f i v ≡ cond (w i) i v) where
    next_one : (T m v : ℕ) → m < n → LastSoFar n w at T m v → LastSoFar n w at T (suc m) (cond (eqb (at m) T) (f m v) v)
    next_one T m v l h = by (eqb (at m) T) refl (w m) refl
      where
        unchanged : (at m ≡ T → w m ≡ true → ⊥) → LastSoFar n w at T (suc m) v
        unchanged never = same_numbers T m T (suc m) v (λ i l q h. omega arith) (λ i l q h. (h.0, λ z. below i q (h.1 z) z)) h
          where
            below : (i : ℕ) → w i ≡ true → i < suc m → at i ≡ T → i < m
            below i q l z = elim (cases_lt i m) [ inl g ↦ g | inr g ↦ absurd (let s : i ≡ m = omega arith in never (ap at (sym s) ∙ z) (ap w (sym s) ∙ q)) ]

        by : (b : Bool) → eqb (at m) T ≡ b → (d : Bool) → w m ≡ d → LastSoFar n w at T (suc m) (cond b (f m v) v)
        by false q d r = unchanged (λ z y. eqb-false (at m) T q z)
        by true q false r = subst (LastSoFar n w at T (suc m)) (sym (e m v ∙ ap (λ b. cond b m v) r)) (unchanged (λ z y. both_ways (w m) r y))
        by true q true r =
            let s : at m ≡ T = eqb-true (at m) T q in
            subst (LastSoFar n w at T (suc m)) (sym (e m v ∙ ap (λ b. cond b m v) r)) (inr (l, r, (omega arith, λ z. omega arith), λ i li wi x. (let y = x.0 in omega arith, λ z. let y = x.1 (z ∙ s) in omega arith)))

    last_in_time : (T m : ℕ) (v : ℕ) → m ≤ n → LastSoFar n w at T 0 v → LastSoFar n w at T m (fold_below f m (λ i. eqb (at i) T) v)
    last_in_time T zero v l h = h
    last_in_time T (suc m) v l h = next_one T m (fold_below f m (λ i. eqb (at i) T) v) l (last_in_time T m v (omega arith) h)

    last_of_all : (T : ℕ) → LastSoFar n w at T 0 (fold_times f n at T 64)
    last_of_all zero = inl (refl, λ i l q h. let x = h.0 in let y = h.1 (omega arith) in omega arith)
    last_of_all (suc T) = next_time T (fold_times f n at (suc T) 64) (last_in_time T n (fold_times f n at T 64) (omega arith) (last_of_all T))

    last_mark : (T : ℕ) → LastMark n w at T (fold_times f n at T 64)
    last_mark T = by (last_of_all T)
      where
        before : (i : ℕ) → In at T 0 i → at i < T
        before i h = elim (cases_lt (at i) T) [ inl g ↦ g | inr g ↦ absurd (let y = h.0 in let x = h.1 (omega arith) in omega arith) ]

        by : LastSoFar n w at T 0 (fold_times f n at T 64) → LastMark n w at T (fold_times f n at T 64)
        by (inl x) = inl (x.0, λ i l q. elim (cases_lt (at i) T) [ inl g ↦ absurd (x.1 i l q (omega arith, λ z. omega arith)) | inr g ↦ g ])
        by (inr x) = inr (x.0, x.1, before (fold_times f n at T 64) x.2, λ i l q g. x.3 i l q (omega arith, λ z. omega arith))

pub marks_as_written_lem : MarksAsWritten
marks_as_written_lem c register_of p s latency timed same j l = as_written c register_of p s latency timed same j l

pub marks_by_landing : MarksByLanding
marks_by_landing c register_of p s latency timed t q ql =
    subst (LastMark p.size (p.accesses (place.Register (register_of q))).writes (λ i. s.cycle i + latency i) (suc t))
    (sym ((holds_landings (marking c register_of p s latency) unmarked (mark_outcome c register_of p) timed (mark_exact c register_of p s latency timed) t).registers q))
    (last_mark p.size (p.accesses (place.Register (register_of q))).writes (λ i. s.cycle i + latency i) (λ i. last_write q (mark_outcome c register_of p i).results) (λ i v. mark_in c (λ r. (p.accesses (place.Register (register_of r))).writes i) i q v ql) (suc t))

pub marks_by_position : MarksByPosition
marks_by_position c register_of p s latency timed t =
    subst (LastMark p.size (p.accesses place.Memory).writes (position s) (8 * t))
    (sym (holds_run (marking c register_of p s latency) unmarked (mark_outcome c register_of p) timed (mark_exact c register_of p s latency timed) t).memory)
    (last_mark p.size (p.accesses place.Memory).writes (position s) (λ i. (mark_outcome c register_of p i).change) (λ i v. refl) (8 * t))
