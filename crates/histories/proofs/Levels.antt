-- A history by levels: the level of a time is how many landing times there are up to it. The history of a place is its history by
-- levels. Assumes nothing.
use Rattle.std.proofs.Common.{◌≡◌, ℕ, zero, suc, ◌+◌, ◌<◌, Bool, true, false, cond, ◌&&◌, eqb, List, [], ◌∷◌, ◌++◌, map, sym, refl, ap, ◌∙◌, ap₂, arith}
use mathlib.Core.List.{map-append}
use Rattle.std.specs.List.{range_with_len}
use Rattle.std.proofs.lemmas.List.FromFn.{map-range_with_len_more}
use Rattle.histories.specs.Below.{those_below, count_below, greatest_below}
use Rattle.histories.specs.History.{Accesses, Clock, Entry, entry, landing, opening, entry_at, history}
use Rattle.histories.proofs.Counts.{some_true, those_cong, those_none, same_landing, read_first, read_after, guard}

-- at how many times up to t, itself with them, a write lands
abbrev pub level : ℕ → Accesses → Clock → ℕ → ℕ
level n a k t = count_below (suc t) (landing n a k)

-- the writers that land at the level m, and the readers that read there
abbrev pub at_level : ℕ → Accesses → Clock → ℕ → Entry
at_level n a k m = entry
    (those_below n (λ w. a.writes w && eqb (level n a k (k.lands_at w)) m))
    (those_below n (λ r. a.reads r && eqb (level n a k (k.reads_at r)) m))

-- the highest level
abbrev pub height : ℕ → Accesses → Clock → ℕ
height n a k = level n a k (greatest_below n k.lands_at)

abbrev pub levelled : ℕ → Accesses → Clock → List Entry
levelled n a k = map (at_level n a k) (range_with_len 0 (suc (height n a k)))

++-none : {A : Type 0} (xs : List A) → xs ++ [] ≡ xs
++-none [] = refl
++-none (x ∷ xs) = ap (λ zs. x ∷ zs) (++-none xs)

module _ (n : ℕ) (a : Accesses) (k : Clock) where
  pub lands_there : (w : ℕ) → w < n → a.writes w ≡ true → landing n a k (k.lands_at w) ≡ true
  lands_there w h e = some_true n _ w h (grind arith)

  entry_is : (t : ℕ) → landing n a k t ≡ true → entry_at n a k t ≡ at_level n a k (suc (count_below t (landing n a k)))
  entry_is t e = ap₂ entry
      (those_cong _ _ n (λ w h. guard (a.writes w) _ _ (λ wr. same_landing (landing n a k) t (k.lands_at w) e (lands_there w h wr))))
      (those_cong _ _ n (λ r h. ap (λ b. a.reads r && b) (read_after (landing n a k) t (k.reads_at r) e)))

  opening_is : opening n a k ≡ at_level n a k 0
  opening_is = ap₂ entry
      (sym (those_none n) ∙ those_cong _ _ n (λ w h. let e = lands_there w h in grind arith))
      (those_cong _ _ n (λ r h. ap (λ b. a.reads r && b) (read_first (landing n a k) (suc (k.reads_at r)))))

  entries_are : (h : ℕ) → opening n a k ∷ map (entry_at n a k) (those_below h (landing n a k)) ≡ map (at_level n a k) (range_with_len 0 (suc (count_below h (landing n a k))))
  entries_are zero = ap (λ e. e ∷ []) opening_is
  entries_are (suc h) = step (landing n a k h) refl (entries_are h)
    where
      step : (b : Bool) → landing n a k h ≡ b →
          opening n a k ∷ map (entry_at n a k) (those_below h (landing n a k)) ≡ map (at_level n a k) (range_with_len 0 (suc (count_below h (landing n a k)))) →
          opening n a k ∷ map (entry_at n a k) (those_below h (landing n a k) ++ cond b (h ∷ []) []) ≡ map (at_level n a k) (range_with_len 0 (suc (count_below h (landing n a k) + cond b 1 0)))
      step true e ih =
          let m : ℕ = count_below h (landing n a k) in
          let q : suc m + 1 ≡ suc (m + 1) = omega arith in
          ap (λ xs. opening n a k ∷ xs) (map-append (entry_at n a k) (those_below h (landing n a k)) (h ∷ []))
          ∙ ap₂ (λ xs x. xs ++ x ∷ []) ih (entry_is h e)
          ∙ sym (map-range_with_len_more (at_level n a k) 0 (suc m) (suc m) (omega arith))
          ∙ ap (λ j. map (at_level n a k) (range_with_len 0 j)) q
      step false e ih =
          let m : ℕ = count_below h (landing n a k) in
          let q : suc m ≡ suc (m + 0) = omega arith in
          ap (λ xs. opening n a k ∷ map (entry_at n a k) xs) (++-none (those_below h (landing n a k)))
          ∙ ih
          ∙ ap (λ j. map (at_level n a k) (range_with_len 0 j)) q

pub same_by_levels : (n : ℕ) (a : Accesses) (k : Clock) → history n a k ≡ levelled n a k
same_by_levels n a k = entries_are n a k (suc (greatest_below n k.lands_at))
