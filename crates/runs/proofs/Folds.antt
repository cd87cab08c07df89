-- Folds over the numbers below n that pass a test, and over times. Assumes nothing.
use Rattle.std.proofs.Common.{◌≡◌, ℕ, zero, suc, ◌<◌, ◌≤◌, Bool, true, false, cond, ◌||◌, eqb, ltb, ◌⊎◌, sym, refl, ap, ◌∙◌, ap₂, inl, inr, arith}
use Rattle.std.proofs.lemmas.Bool.{cases_lt}

-- f i for each i below n that passes a test, ascending
abbrev pub fold_below : {A : Type 0} → (ℕ → A → A) → ℕ → (ℕ → Bool) → A → A
fold_below f zero g a = a
fold_below f (suc n) g a = cond (g n) (f n (fold_below f n g a)) (fold_below f n g a)

-- those with the time 0, then those with the time 1, and so on, below T
abbrev pub fold_times : {A : Type 0} → (ℕ → A → A) → ℕ → (ℕ → ℕ) → ℕ → A → A
fold_times f n at zero a = a
fold_times f n at (suc t) a = fold_below f n (λ i. eqb (at i) t) (fold_times f n at t a)

module _ {A : Type 0} (f : ℕ → A → A) where
  idle_step : (n : ℕ) → ((x : A) → f n x ≡ x) → (b : Bool) (x : A) → cond b (f n x) x ≡ x
  idle_step n e true x = e x
  idle_step n e false x = refl

  -- tests that agree where f does something
  pub fold_cong : (n : ℕ) (g h : ℕ → Bool) (a : A) → ((i : ℕ) → i < n → (g i ≡ h i) ⊎ ((x : A) → f i x ≡ x)) → fold_below f n g a ≡ fold_below f n h a
  fold_cong zero g h a e = refl
  fold_cong (suc n) g h a e = by (e n (omega arith)) (fold_cong n g h a (λ i l. e i (omega arith)))
    where
      by : (g n ≡ h n) ⊎ ((x : A) → f n x ≡ x) → fold_below f n g a ≡ fold_below f n h a → fold_below f (suc n) g a ≡ fold_below f (suc n) h a
      by (inl q) ih = ap₂ (λ b x. cond b (f n x) x) q ih
      by (inr q) ih = idle_step n q (g n) (fold_below f n g a) ∙ ih ∙ sym (idle_step n q (h n) (fold_below f n h a))

  pub fold_false : (n : ℕ) (a : A) → fold_below f n (λ i. false) a ≡ a
  fold_false zero a = refl
  fold_false (suc n) a = fold_false n a

  pub fold_none : (n : ℕ) (g : ℕ → Bool) (a : A) → ((i : ℕ) → i < n → (g i ≡ false) ⊎ ((x : A) → f i x ≡ x)) → fold_below f n g a ≡ a
  fold_none n g a e = fold_cong n g (λ i. false) a e ∙ fold_false n a

  -- the numbers below j, of n
  pub fold_to : (n j : ℕ) (a : A) → j ≤ n → fold_below f n (λ i. ltb i j) a ≡ fold_below f j (λ i. true) a
  fold_to zero j a l = let e : j ≡ 0 = omega arith in rw e
  fold_to (suc n) j a l = elim (cases_lt n j) [
    | inl m ↦ (let e : suc n ≡ j = omega arith in fold_cong (suc n) (λ i. ltb i j) (λ i. true) a (λ i h. inl (grind arith)) ∙ ap (λ x. fold_below f x (λ i. true) a) e)
    | inr m ↦ (let e : ltb n j ≡ false = grind arith in ap (λ b. cond b (f n (fold_below f n (λ i. ltb i j) a)) (fold_below f n (λ i. ltb i j) a)) e ∙ fold_to n j a m)
  ]

  module _ (w : ℕ → Bool) where
    -- first the numbers of one test, then those of another: where f does something these are the higher ones
    pub fold_join : (n : ℕ) (g h : ℕ → Bool) (a : A) → ((i : ℕ) → i < n → w i ≡ false → (x : A) → f i x ≡ x) →
        ((i j : ℕ) → i < n → j < n → w i ≡ true → w j ≡ true → g i ≡ true → h j ≡ true → j < i) →
        fold_below f n g (fold_below f n h a) ≡ fold_below f n (λ i. h i || g i) a
    fold_join zero g h a idle up = refl
    fold_join (suc n) g h a idle up = by (w n) refl (g n) refl (h n) refl (fold_join n g h a (λ i l. idle i (omega arith)) (λ i j l m. up i j (omega arith) (omega arith)))
      where
        all : A
        all = fold_below f n (λ i. h i || g i) a

        first_below : A
        first_below = fold_below f n h a

        none_left : w n ≡ true → h n ≡ true → (i : ℕ) → i < n → (b : Bool) → w i ≡ b → (d : Bool) → g i ≡ d → (g i ≡ false) ⊎ ((x : A) → f i x ≡ x)
        none_left wn hn i l false e d q = inr (idle i (omega arith) e)
        none_left wn hn i l true e false q = inl q
        none_left wn hn i l true e true q = absurd (let x = up i n (omega arith) (omega arith) e wn q hn in omega arith)

        covered : w n ≡ true → h n ≡ true → (i : ℕ) → i < n → (g i ≡ false) ⊎ ((x : A) → f i x ≡ x) → (h i ≡ (h i || g i)) ⊎ ((x : A) → f i x ≡ x)
        covered wn hn i l (inl q) = inl (grind arith)
        covered wn hn i l (inr q) = inr q

        by : (b : Bool) → w n ≡ b → (c : Bool) → g n ≡ c → (d : Bool) → h n ≡ d → fold_below f n g (fold_below f n h a) ≡ fold_below f n (λ i. h i || g i) a →
            cond c (f n (fold_below f n g (cond d (f n (fold_below f n h a)) (fold_below f n h a)))) (fold_below f n g (cond d (f n (fold_below f n h a)) (fold_below f n h a)))
            ≡ cond (d || c) (f n (fold_below f n (λ i. h i || g i) a)) (fold_below f n (λ i. h i || g i) a)
        by false e c q d r ih =
            let z : (x : A) → f n x ≡ x = idle n (omega arith) e in
            idle_step n z c (fold_below f n g (cond d (f n (fold_below f n h a)) (fold_below f n h a)))
            ∙ ap (fold_below f n g) (idle_step n z d (fold_below f n h a))
            ∙ ih
            ∙ sym (idle_step n z (d || c) (fold_below f n (λ i. h i || g i) a))
        by true e true q true r ih = absurd (let x = up n n (omega arith) (omega arith) e e q r in omega arith)
        by true e true q false r ih = ap (f n) ih
        by true e false q false r ih = ih
        by true e false q true r ih =
            fold_none n g (f n (fold_below f n h a)) (λ i l. none_left e r i l (w i) refl (g i) refl)
            ∙ ap (f n) (fold_cong n h (λ i. h i || g i) a (λ i l. covered e r i l (none_left e r i l (w i) refl (g i) refl)))

    -- where times rise with the numbers, time after time is number after number
    pub times_rise : (n : ℕ) (at : ℕ → ℕ) (a : A) → ((i : ℕ) → i < n → w i ≡ false → (x : A) → f i x ≡ x) →
        ((i j : ℕ) → i < n → j < n → w i ≡ true → w j ≡ true → at j < at i → j < i) → (t : ℕ) →
        fold_times f n at t a ≡ fold_below f n (λ i. ltb (at i) t) a
    times_rise n at a idle up zero = sym (fold_none n (λ i. ltb (at i) 0) a (λ i l. inl (grind arith)))
    times_rise n at a idle up (suc t) =
        ap (fold_below f n (λ i. eqb (at i) t)) (times_rise n at a idle up t)
        ∙ fold_join n (λ i. eqb (at i) t) (λ i. ltb (at i) t) a idle (λ i j l m wi wj e d. up i j l m wi wj (grind arith))
        ∙ fold_cong n (λ i. ltb (at i) t || eqb (at i) t) (λ i. ltb (at i) (suc t)) a (λ i l. inl (grind arith))
