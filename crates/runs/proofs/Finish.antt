-- In any schedule: a run comes to its end; faults and counts. Assumes nothing.
use Rattle.std.proofs.Common.{◌≡◌, ℕ, zero, suc, ◌+◌, ◌<◌, ◌≤◌, min, Bool, true, false, cond, ◌&&◌, ◌||◌, eqb, ltb, leb, List, [], ◌∷◌, ◌++◌, length, is_some, sym, refl, ap, ◌∙◌, subst, ap₂, arith}
use Rattle.std.proofs.lemmas.Bool.{and_parts, eqb-true, both_ways}
use Rattle.histories.specs.Below.{count_below}
use Rattle.runs.specs.Machine.{Write, Outcome, Pending, Issued, Setup, Contents, State, in_flight, due_in, not_due_in, issue, issue_slot, issue_slots, landed, run, outcomes_of}
use Rattle.runs.specs.Ends.{Timed, RunFinishes, lowest_fault, first_below, StepCounts}
use Rattle.runs.proofs.Invariant.{now_run}

-- every result is due at lo or later, and before hi
abbrev due_within : {V : Type 0} → ℕ → ℕ → List (Pending V) → Bool
due_within lo hi [] = true
due_within lo hi (x ∷ xs) = (leb lo x.due && ltb x.due hi) && due_within lo hi xs

module _ {V : Type 0} (hi : ℕ) where
  due-within-++ : (lo : ℕ) (xs ys : List (Pending V)) → due_within lo hi xs ≡ true → due_within lo hi ys ≡ true → due_within lo hi (xs ++ ys) ≡ true
  due-within-++ lo [] ys a b = b
  due-within-++ lo (x ∷ xs) ys a b = let ih = due-within-++ lo xs ys in grind arith

  due_within_flight : (lo d i : ℕ) (xs : List (Write V)) → lo ≤ d → d < hi → due_within lo hi (in_flight d i xs) ≡ true
  due_within_flight lo d i [] l h = refl
  due_within_flight lo d i (x ∷ xs) l h = let ih = due_within_flight lo d i xs l h in grind arith

  due_within_rest : (t : ℕ) (xs : List (Pending V)) → due_within t hi xs ≡ true → due_within (suc t) hi (not_due_in t xs) ≡ true
  due_within_rest t [] e = refl
  due_within_rest t (x ∷ xs) e = by (eqb x.due t) refl (due_within_rest t xs (and_parts (leb t x.due && ltb x.due hi) (due_within t hi xs) e).1)
    where
      by : (b : Bool) → eqb x.due t ≡ b → due_within (suc t) hi (not_due_in t xs) ≡ true → due_within (suc t) hi (cond b (not_due_in t xs) (x ∷ not_due_in t xs)) ≡ true
      by true q ih = ih
      by false q ih = let h = (and_parts (leb t x.due && ltb x.due hi) (due_within t hi xs) e).0 in grind arith

  due_within_none : (xs : List (Pending V)) → due_within hi hi xs ≡ true → xs ≡ []
  due_within_none [] e = refl
  due_within_none (x ∷ xs) e = absurd (let h = (and_parts (leb hi x.due && ltb x.due hi) (due_within hi hi xs) e).0 in let z : false ≡ true = grind arith in both_ways false refl z)

module _ {V M F : Type 0} (k : Setup V M F) (timed : Timed k) (hi : ℕ) (last : (i : ℕ) → i < k.program.size → k.schedule.cycle i + k.latency i < hi) where
  due_within_slot : (t b : ℕ) (st : State V M F) → due_within (suc t) hi st.flight ≡ true → (m : ℕ) → m ≤ k.program.size → due_within (suc t) hi (issue_slot k t b m st).flight ≡ true
  due_within_slot t b st h zero l = h
  due_within_slot t b st h (suc i) l = by (eqb (k.schedule.cycle i) t && eqb (k.schedule.slot i) b) refl (due_within_slot t b st h i (omega arith))
    where
      by : (c : Bool) → (eqb (k.schedule.cycle i) t && eqb (k.schedule.slot i) b) ≡ c → due_within (suc t) hi (issue_slot k t b i st).flight ≡ true →
          due_within (suc t) hi (cond c (issue k t i (issue_slot k t b i st)) (issue_slot k t b i st)).flight ≡ true
      by true e ih =
          let s : k.schedule.cycle i ≡ t = eqb-true (k.schedule.cycle i) t (and_parts (eqb (k.schedule.cycle i) t) (eqb (k.schedule.slot i) b) e).0 in
          let x = last i l in
          let y = timed.timing i l in
          let z = timed.sound.takes_time i l in
          due-within-++ hi (suc t) (issue_slot k t b i st).flight (in_flight (t + k.latency i) i (k.does i (issue_slot k t b i st).registers (issue_slot k t b i st).memory).results) ih
          (due_within_flight hi (suc t) (t + k.latency i) i (k.does i (issue_slot k t b i st).registers (issue_slot k t b i st).memory).results (omega arith) (omega arith))
      by false e ih = ih

  due_within_slots : (t : ℕ) (st : State V M F) → due_within (suc t) hi st.flight ≡ true → (b : ℕ) → due_within (suc t) hi (issue_slots k t b st).flight ≡ true
  due_within_slots t st h zero = h
  due_within_slots t st h (suc b) = due_within_slot t b (issue_slots k t b st) (due_within_slots t st h b) k.program.size (omega arith)

  due_within_run : (a : Contents V M) (t : ℕ) → due_within t hi (run k a t).flight ≡ true
  due_within_run a zero = refl
  due_within_run a (suc t) =
      subst (λ z. due_within (suc t) hi (issue_slots k z 8 (landed k z (run k a t))).flight ≡ true) (sym (now_run k a t))
      (due_within_slots t (landed k t (run k a t)) (due_within_rest hi t (run k a t).flight (due_within_run a t)) 8)

pub run_finishes : (V M F : Type 0) → RunFinishes V M F
run_finishes V M F k timed a t last = record {
  issued = λ i l. let x = last i l in omega arith;
  empty = due_within_none t (run k a t).flight (due_within_run k timed t last a t);
}

-- whether one of the outcomes has a fault
abbrev pub any_fault : {V M F : Type 0} → List (Outcome V M F) → Bool
any_fault [] = false
any_fault (x ∷ xs) = is_some x.fault || any_fault xs

pub first_cong : (n : ℕ) (g h : ℕ → Bool) → ((i : ℕ) → i < n → g i ≡ h i) → first_below n g ≡ first_below n h
first_cong zero g h e = refl
first_cong (suc n) g h e = ap₂ (λ x b. cond (ltb x n) x (cond b n (suc n))) (first_cong n g h (λ i l. e i (omega arith))) (e n (omega arith))

first_most : (n : ℕ) (g : ℕ → Bool) → first_below n g ≤ n
first_most zero g = omega arith
first_most (suc n) g = let ih = first_most n g in grind arith

first_none : (n : ℕ) → n ≡ first_below n (λ i. false)
first_none zero = refl
first_none (suc n) = let ih = first_none n in grind arith

more_step : (n i x y : ℕ) (b : Bool) → x ≡ min i y → y ≤ n → cond (ltb x n) x (cond (eqb i n || b) n (suc n)) ≡ min i (cond (ltb y n) y (cond b n (suc n)))
more_step n i x y b e l = grind arith

first_more : (n i : ℕ) (g : ℕ → Bool) → first_below n (λ w. eqb i w || g w) ≡ min i (first_below n g)
first_more zero i g = omega arith
first_more (suc n) i g = more_step n i (first_below n (λ w. eqb i w || g w)) (first_below n g) (g n) (first_more n i g) (first_most n g)

pub lowest_listed : {V M F : Type 0} (n : ℕ) (log : List (Issued V M F)) → lowest_fault n log ≡ first_below n (λ w. any_fault (outcomes_of w log))
lowest_listed n [] = first_none n
lowest_listed n (x ∷ xs) = by (is_some x.outcome.fault) refl (lowest_listed n xs)
  where
    one : (w : ℕ) → any_fault (outcomes_of w (x ∷ xs)) ≡ ((eqb x.operation w && is_some x.outcome.fault) || any_fault (outcomes_of w xs))
    one w = by (eqb x.operation w)
      where
        by : (b : Bool) → any_fault (cond b (x.outcome ∷ outcomes_of w xs) (outcomes_of w xs)) ≡ ((b && is_some x.outcome.fault) || any_fault (outcomes_of w xs))
        by true = refl
        by false = refl

    by : (b : Bool) → is_some x.outcome.fault ≡ b → lowest_fault n xs ≡ first_below n (λ w. any_fault (outcomes_of w xs)) →
        cond b (min x.operation (lowest_fault n xs)) (lowest_fault n xs) ≡ first_below n (λ w. any_fault (outcomes_of w (x ∷ xs)))
    by false e ih = ih ∙ sym (first_cong n (λ w. any_fault (outcomes_of w (x ∷ xs))) (λ w. any_fault (outcomes_of w xs)) (λ w l. let z = one w in grind arith))
    by true e ih =
        ap (min x.operation) ih
        ∙ sym (first_more n x.operation (λ w. any_fault (outcomes_of w xs)))
        ∙ sym (first_cong n (λ w. any_fault (outcomes_of w (x ∷ xs))) (λ w. eqb x.operation w || any_fault (outcomes_of w xs)) (λ w l. let z = one w in grind arith))

-- how many operations issue
count_zero : (n : ℕ) (g : ℕ → Bool) → ((i : ℕ) → i < n → g i ≡ false) → count_below n g ≡ 0
count_zero zero g e = refl
count_zero (suc n) g e = let ih = count_zero n g (λ i l. e i (omega arith)) in let x = e n (omega arith) in grind arith

count_part : (n : ℕ) (f : ℕ → Bool) (s : ℕ → ℕ) (b : ℕ) → count_below n (λ i. f i && ltb (s i) (suc b)) ≡ count_below n (λ i. f i && ltb (s i) b) + count_below n (λ i. f i && eqb (s i) b)
count_part zero f s b = refl
count_part (suc n) f s b = let ih = count_part n f s b in grind arith

count_all : (n : ℕ) (f : ℕ → Bool) (s : ℕ → ℕ) (b : ℕ) → ((i : ℕ) → i < n → s i < b) → count_below n (λ i. f i && ltb (s i) b) ≡ count_below n f
count_all zero f s b e = refl
count_all (suc n) f s b e = let ih = count_all n f s b (λ i l. e i (omega arith)) in let x = e n (omega arith) in grind arith

module _ {V M F : Type 0} (k : Setup V M F) where
  log_slot : (t b m : ℕ) (st : State V M F) → length (issue_slot k t b m st).log ≡ length st.log + count_below m (λ i. eqb (k.schedule.cycle i) t && eqb (k.schedule.slot i) b)
  log_slot t b zero st = omega arith
  log_slot t b (suc i) st = by (eqb (k.schedule.cycle i) t && eqb (k.schedule.slot i) b) (log_slot t b i st)
    where
      by : (c : Bool) → length (issue_slot k t b i st).log ≡ length st.log + count_below i (λ j. eqb (k.schedule.cycle j) t && eqb (k.schedule.slot j) b) →
          length (cond c (issue k t i (issue_slot k t b i st)) (issue_slot k t b i st)).log ≡ length st.log + (count_below i (λ j. eqb (k.schedule.cycle j) t && eqb (k.schedule.slot j) b) + cond c 1 0)
      by true ih = omega arith
      by false ih = omega arith

  log_slots : (t b : ℕ) (st : State V M F) → length (issue_slots k t b st).log ≡ length st.log + count_below k.program.size (λ i. eqb (k.schedule.cycle i) t && ltb (k.schedule.slot i) b)
  log_slots t zero st = let z = count_zero k.program.size (λ i. eqb (k.schedule.cycle i) t && ltb (k.schedule.slot i) 0) (λ i l. grind arith) in omega arith
  log_slots t (suc b) st =
      let ih = log_slots t b st in
      let x = log_slot t b k.program.size (issue_slots k t b st) in
      let y = count_part k.program.size (λ i. eqb (k.schedule.cycle i) t) k.schedule.slot b in
      omega arith

split_flight : {V : Type 0} (t : ℕ) (xs : List (Pending V)) → length xs ≡ length (due_in t xs) + length (not_due_in t xs)
split_flight t [] = refl
split_flight t (x ∷ xs) = by (eqb x.due t) (split_flight t xs)
  where
    by : (b : Bool) → length xs ≡ length (due_in t xs) + length (not_due_in t xs) → suc (length xs) ≡ length (cond b (x ∷ due_in t xs) (due_in t xs)) + length (cond b (not_due_in t xs) (x ∷ not_due_in t xs))
    by true ih = omega arith
    by false ih = omega arith

pub step_counts : (V M F : Type 0) → StepCounts V M F
step_counts V M F k timed st = (
  log_slots k st.now 8 (landed k st.now st) ∙ ap (λ c. length st.log + c) (count_all k.program.size (λ i. eqb (k.schedule.cycle i) st.now) k.schedule.slot 8 timed.sound.in_slots),
  split_flight st.now st.flight,
)
