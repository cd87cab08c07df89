-- Counts of the numbers that pass a test, and lists of them. Assumes nothing.
use Rattle.std.proofs.Common.{◌≡◌, ℕ, zero, suc, ◌+◌, ◌<◌, ◌≤◌, Bool, true, false, cond, not, ◌&&◌, ◌||◌, eqb, ltb, leb, ◌↔◌, List, [], ◌∷◌, ◌++◌, refl, ap, ap₂, inl, inr, arith}
use Rattle.std.proofs.lemmas.Bool.{cases_lt, cases_order, or_cases}
use Rattle.histories.specs.Below.{those_below, some_below, count_below, greatest_below, listed}

-- tests that say the same, and a denied order
pub guard : (a b d : Bool) → (a ≡ true → b ≡ d) → (a && b) ≡ (a && d)
guard a b d h = grind arith

pub bool_iff : (a b : Bool) → (a ≡ true → b ≡ true) → (b ≡ true → a ≡ true) → a ≡ b
bool_iff a b f g = grind arith

pub ltb_iff : (a b c d : ℕ) → (a ≤ b) ↔ (c ≤ d) → ltb a (suc b) ≡ ltb c (suc d)
ltb_iff a b c d f = grind arith

pub not_le : {a b c d : ℕ} → (a ≤ b) ↔ (c ≤ d) → (b < a) ↔ (d < c)
not_le {a} {b} {c} {d} f = grind arith

pub not_lt : {a b c d : ℕ} → (a < b) ↔ (c < d) → (b ≤ a) ↔ (d ≤ c)
not_lt {a} {b} {c} {d} f = grind arith

pub greatest_ge : (n : ℕ) (f : ℕ → ℕ) (i : ℕ) → i < n → f i ≤ greatest_below n f
greatest_ge zero f i h = omega arith
greatest_ge (suc n) f i h = let ih = greatest_ge n f i in grind arith

pub some_true : (n : ℕ) (f : ℕ → Bool) (i : ℕ) → i < n → f i ≡ true → some_below n f ≡ true
some_true zero f i h t = grind arith
some_true (suc n) f i h t = let ih = some_true n f i in grind arith

pub some_found : (n : ℕ) (f : ℕ → Bool) → some_below n f ≡ true → (i : ℕ) × (i < n) × (f i ≡ true)
some_found zero f t = absurd (grind arith)
some_found (suc n) f t = elim (or_cases (some_below n f) (f n) t) [
  | inl e ↦ (let x = some_found n f e in (x.0, omega arith, x.2))
  | inr e ↦ (n, omega arith, e)
]

-- tests that agree below n
module _ (f g : ℕ → Bool) where
  pub some_cong : (n : ℕ) → ((i : ℕ) → i < n → f i ≡ g i) → some_below n f ≡ some_below n g
  some_cong zero h = refl
  some_cong (suc n) h = ap₂ ◌||◌ (some_cong n (λ i l. h i (omega arith))) (h n (omega arith))

  pub those_cong : (n : ℕ) → ((i : ℕ) → i < n → f i ≡ g i) → those_below n f ≡ those_below n g
  those_cong zero h = refl
  those_cong (suc n) h = ap₂ (λ xs b. xs ++ cond b (n ∷ []) []) (those_cong n (λ i l. h i (omega arith))) (h n (omega arith))

  pub count_cong : (n : ℕ) → ((i : ℕ) → i < n → f i ≡ g i) → count_below n f ≡ count_below n g
  count_cong zero h = refl
  count_cong (suc n) h = ap₂ (λ m b. m + cond b 1 0) (count_cong n (λ i l. h i (omega arith))) (h n (omega arith))

pub those_none : (n : ℕ) → those_below n (λ i. false) ≡ []
those_none zero = refl
those_none (suc n) = ap (λ xs. xs ++ []) (those_none n)

pub count_none : (n : ℕ) → count_below n (λ i. false) ≡ 0
count_none zero = refl
count_none (suc n) = let ih = count_none n in omega arith

pub some_none : (n : ℕ) → some_below n (λ i. false) ≡ false
some_none zero = refl
some_none (suc n) = let ih = some_none n in grind arith

one_step : (b x : Bool) (c d h u : ℕ) → h ≤ u → (leb h u && not b) ≡ eqb c (suc d) → suc d ≤ c →
    (leb h (suc u) && not (b || (ltb h (suc u) && x))) ≡ eqb (c + cond x 1 0) (suc d)
one_step b x c d h u l e m = grind arith

-- counts up to a and up to b
module _ (f : ℕ → Bool) where
  pub count_mono : (b a : ℕ) → a ≤ b → count_below a f ≤ count_below b f
  count_mono zero a h = grind arith
  count_mono (suc b) a h = let ih = count_mono b a in let c = cases_order a (suc b) in grind arith

  pub count_gap : (b a : ℕ) → a ≤ b → ((s : ℕ) → a ≤ s → s < b → f s ≡ false) → count_below b f ≡ count_below a f
  count_gap zero a h z = grind arith
  count_gap (suc b) a h z = let c = cases_order a (suc b) in let last = z b in let ih = count_gap b a in grind arith

  -- every count from 1 on is reached, at a number that passes
  pub count_reached : (m b : ℕ) → 0 < b → b ≤ count_below m f → (t : ℕ) × (f t ≡ true) × (count_below (suc t) f ≡ b)
  count_reached zero b l h = absurd (omega arith)
  count_reached (suc m) b l h = elim (cases_lt (count_below m f) b) [
    | inl g ↦ (m, grind arith, grind arith)
    | inr g ↦ count_reached m b l g
  ]

  -- a time t with f, and the count_below one past it, name one another
  pub same_landing : (h t : ℕ) → f h ≡ true → f t ≡ true → eqb t h ≡ eqb (count_below (suc t) f) (suc (count_below h f))
  same_landing h t eh et = let a = count_mono h (suc t) in let b = count_mono t (suc h) in grind arith

  pub read_first : (u : ℕ) → not (some_below u f) ≡ eqb (count_below u f) 0
  read_first zero = refl
  read_first (suc u) = let ih = read_first u in grind arith

  none_later : (h u : ℕ) → u ≤ suc h → some_below u (λ s. ltb h s && f s) ≡ false
  none_later h zero l = refl
  none_later h (suc u) l = let ih = none_later h u in grind arith

  pub read_after : (h u : ℕ) → f h ≡ true → (leb h u && not (some_below (suc u) (λ s. ltb h s && f s))) ≡ eqb (count_below (suc u) f) (suc (count_below h f))
  read_after h zero e = let c = cases_order h 0 in let m = count_mono h 1 in grind arith
  read_after h (suc u) e = elim (cases_order h (suc u)) [
    | inl q ↦ (let none = none_later h (suc (suc u)) (omega arith) in grind arith)
    | inr (inl l) ↦ one_step (some_below (suc u) (λ s. ltb h s && f s)) (f (suc u)) (count_below (suc u) f) (count_below h f) h u (omega arith) (read_after h u e) (let m = count_mono (suc u) (suc h) (omega arith) in grind arith)
    | inr (inr g) ↦ (let m = count_mono h (suc (suc u)) g in grind arith)
  ]

-- lists of numbers
pub listed-++ : (i : ℕ) (xs ys : List ℕ) → listed i (xs ++ ys) ≡ (listed i xs || listed i ys)
listed-++ i [] ys = refl
listed-++ i (x ∷ xs) ys = let ih = listed-++ i xs ys in grind arith

pub listed_those : (n : ℕ) (f : ℕ → Bool) (i : ℕ) → listed i (those_below n f) ≡ (ltb i n && f i)
listed_those zero f i = grind arith
listed_those (suc n) f i = let ih = listed_those n f i in let s = listed-++ i (those_below n f) (cond (f n) (n ∷ []) []) in grind arith

pub listed_within : (n : ℕ) (f : ℕ → Bool) (i : ℕ) → listed i (those_below n f) ≡ true → (i < n) × (f i ≡ true)
listed_within n f i e = let h = listed_those n f i in (grind arith, grind arith)

pub those_inj : (n : ℕ) (f g : ℕ → Bool) → those_below n f ≡ those_below n g → (i : ℕ) → i < n → f i ≡ g i
those_inj n f g e i h = let a = listed_those n f i in let b = listed_those n g i in let c = ap (listed i) e in grind arith
