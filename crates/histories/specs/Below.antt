-- Tests of the numbers below n, and lists of numbers. Assumes nothing.
use Rattle.std.specs.Prelude.{ℕ, zero, suc, ◌+◌, max, Bool, false, cond, ◌||◌, List, [], ◌∷◌, ◌++◌, ◌==◌}

-- the numbers below n that pass a test, ascending
abbrev pub those_below : ℕ → (ℕ → Bool) → List ℕ
those_below zero f = []
those_below (suc n) f = those_below n f ++ cond (f n) (n ∷ []) []

-- whether some number below n passes a test
abbrev pub some_below : ℕ → (ℕ → Bool) → Bool
some_below zero f = false
some_below (suc n) f = some_below n f || f n

-- how many numbers below n pass a test
abbrev pub count_below : ℕ → (ℕ → Bool) → ℕ
count_below zero f = 0
count_below (suc n) f = count_below n f + cond (f n) 1 0

-- the greatest of f 0 to f (n - 1); 0 where there is none
abbrev pub greatest_below : ℕ → (ℕ → ℕ) → ℕ
greatest_below zero f = 0
greatest_below (suc n) f = max (greatest_below n f) (f n)

-- whether a number is in a list
abbrev pub listed : ℕ → List ℕ → Bool
listed i [] = false
listed i (x ∷ xs) = x == i || listed i xs
