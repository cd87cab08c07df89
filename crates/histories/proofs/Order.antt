-- Two clocks that order a place's writers and readers alike give it the same history, and the converse.
-- Assumes nothing.
use Rattle.std.proofs.Common.{◌≡◌, ℕ, zero, suc, ◌+◌, ◌<◌, ◌≤◌, Bool, true, false, cond, not, ◌&&◌, eqb, ltb, ◌↔◌, [], map, length, get_or, sym, refl, ap, ◌∙◌, ap₂, inl, inr, arith}
use Rattle.std.specs.List.{range_with_len}
use Rattle.std.proofs.lemmas.List.FromFn.{length-map-range_with_len, get_or-map-range_with_len}
use Rattle.std.proofs.lemmas.Bool.{cases_lt, eq-eqb, eqb-true, and_parts, and_from}
use Rattle.histories.specs.Below.{some_below, count_below, greatest_below}
use Rattle.histories.specs.History.{Accesses, Clock, Entry, entry, landing, history, Agree, OrderDecidesHistory}
use Rattle.histories.specs.Reading.{HistoryNamesAccesses}
use Rattle.histories.proofs.Counts.{guard, bool_iff, ltb_iff, not_le, not_lt, greatest_ge, some_cong, some_none, those_cong, those_inj, count_cong, count_none, count_mono, count_gap}
use Rattle.histories.proofs.Levels.{level, at_level, height, levelled, same_by_levels, lands_there}

-- the first writer, by number, of those that land at its time
abbrev first : Accesses → Clock → ℕ → Bool
first a k i = a.writes i && not (some_below i (λ j. a.writes j && eqb (k.lands_at j) (k.lands_at i)))

count_split : (m : ℕ) (f : ℕ → Bool) (g : ℕ → ℕ) (t : ℕ) → count_below m (λ i. f i && ltb (g i) (suc t)) ≡ count_below m (λ i. f i && ltb (g i) t) + count_below m (λ i. f i && eqb (g i) t)
count_split zero f g t = refl
count_split (suc m) f g t = let ih = count_split m f g t in grind arith

-- as many times have a landing as there are first writers
module _ (a : Accesses) (k : Clock) where
  first_at : (m t : ℕ) → (first a k m && eqb (k.lands_at m) t) ≡ ((a.writes m && eqb (k.lands_at m) t) && not (some_below m (λ j. a.writes j && eqb (k.lands_at j) t)))
  first_at m t = grind arith

  count_at : (m t : ℕ) → count_below m (λ i. first a k i && eqb (k.lands_at i) t) ≡ cond (some_below m (λ i. a.writes i && eqb (k.lands_at i) t)) 1 0
  count_at zero t = refl
  count_at (suc m) t = let ih = count_at m t in let e = first_at m t in grind arith

  count_firsts : (n t : ℕ) → count_below t (landing n a k) ≡ count_below n (λ i. first a k i && ltb (k.lands_at i) t)
  count_firsts n zero = sym (count_none n) ∙ count_cong _ _ n (λ i h. grind arith)
  count_firsts n (suc t) = ap₂ ◌+◌ (count_firsts n t) (sym (count_at n t)) ∙ sym (count_split n (first a k) k.lands_at t)

  height_firsts : (n : ℕ) → height n a k ≡ count_below n (first a k)
  height_firsts n = count_firsts n (suc (greatest_below n k.lands_at)) ∙ count_cong _ _ n (λ i h. let g = greatest_ge n k.lands_at i h in grind arith)

module _ (n : ℕ) (a : Accesses) (k l : Clock) (agree : Agree n a k l) where
  first_same : (i : ℕ) → i < n → first a k i ≡ first a l i
  first_same i h = guard (a.writes i) _ _ (λ wi. ap not (some_cong _ _ i (λ j ji. let x = agree.order i j in let y = agree.order j i in grind arith)))

  same_level : (t u : ℕ) → ((i : ℕ) → i < n → a.writes i ≡ true → (k.lands_at i ≤ t) ↔ (l.lands_at i ≤ u)) → level n a k t ≡ level n a l u
  same_level t u f =
      count_firsts a k n (suc t)
      ∙ count_cong _ _ n (λ i h.
      guard (first a k i) _ _ (λ e. ltb_iff (k.lands_at i) t (l.lands_at i) u (f i h (and_parts (a.writes i) _ e).0))
      ∙ ap (λ b. b && ltb (l.lands_at i) (suc u)) (first_same i h))
      ∙ sym (count_firsts a l n (suc u))

  same_entry : (m : ℕ) → at_level n a k m ≡ at_level n a l m
  same_entry m = ap₂ entry
      (those_cong _ _ n (λ w h. guard (a.writes w) _ _ (λ ww. ap (λ x. eqb x m) (same_level (k.lands_at w) (l.lands_at w) (λ i hi wi. not_lt (agree.order w i h hi ww wi))))))
      (those_cong _ _ n (λ r h. guard (a.reads r) _ _ (λ rr. ap (λ x. eqb x m) (same_level (k.reads_at r) (l.reads_at r) (λ i hi wi. agree.seen i r hi h wi rr)))))

  same_levelled : levelled n a k ≡ levelled n a l
  same_levelled = ap₂ (λ f m. map f (range_with_len 0 (suc m))) (λ i m. same_entry m i) (height_firsts a k n ∙ count_cong _ _ n first_same ∙ sym (height_firsts a l n))

pub order_decides : (n : ℕ) (a : Accesses) (k l : Clock) → Agree n a k l → history n a k ≡ history n a l
order_decides n a k l agree = same_by_levels n a k ∙ same_levelled n a k l agree ∙ sym (same_by_levels n a l)

-- the converse
module _ (n : ℕ) (a : Accesses) (k : Clock) where
  -- a write has landed by a time if and only if its level is reached
  pub reached : (w t : ℕ) → w < n → a.writes w ≡ true → (k.lands_at w ≤ t) ↔ (level n a k (k.lands_at w) ≤ level n a k t)
  reached w t h e =
      let e = lands_there n a k w h e in
      let up = count_mono (landing n a k) (suc t) (suc (k.lands_at w)) in
      let down = count_mono (landing n a k) (k.lands_at w) (suc t) in
      grind arith

  pub below_height : (t : ℕ) → level n a k t ≤ height n a k
  below_height t = elim (cases_lt (greatest_below n k.lands_at) t) [
    | inl l ↦ (let g = count_gap (landing n a k) (suc t) (suc (greatest_below n k.lands_at)) (omega arith) (λ s ls st. none s ls) in omega arith)
    | inr m ↦ count_mono (landing n a k) (suc (greatest_below n k.lands_at)) (suc t) (omega arith)
  ]
    where
      none : (s : ℕ) → greatest_below n k.lands_at < s → landing n a k s ≡ false
      none s ls = some_cong _ _ n (λ i h. let g = greatest_ge n k.lands_at i h in grind arith) ∙ some_none n

module _ (n : ℕ) (a b : Accesses) (k l : Clock) (same : history n a k ≡ history n b l) where
  levels_same : levelled n a k ≡ levelled n b l
  levels_same = sym (same_by_levels n a k) ∙ same ∙ same_by_levels n b l

  heights_same : suc (height n a k) ≡ suc (height n b l)
  heights_same = sym (length-map-range_with_len (at_level n a k) 0 (suc (height n a k))) ∙ ap length levels_same ∙ length-map-range_with_len (at_level n b l) 0 (suc (height n b l))

  entries_same : (m : ℕ) → m ≤ height n a k → at_level n a k m ≡ at_level n b l m
  entries_same m h =
      let hs = heights_same in
      let none : Entry = entry [] [] in
      sym (get_or-map-range_with_len (at_level n a k) 0 (suc (height n a k)) m m none (omega arith) (omega arith))
      ∙ ap (λ es. get_or es m none) levels_same
      ∙ get_or-map-range_with_len (at_level n b l) 0 (suc (height n b l)) m m none (omega arith) (omega arith)

  same_writer : (w : ℕ) → w < n → a.writes w ≡ true → (b.writes w ≡ true) × (level n b l (l.lands_at w) ≡ level n a k (k.lands_at w))
  same_writer w h e =
      let m : ℕ = level n a k (k.lands_at w) in
      let same_test = those_inj n _ _ (ap (λ x. x.writers) (entries_same m (below_height n a k (k.lands_at w)))) w h in
      let both = and_parts (b.writes w) _ (sym same_test ∙ and_from (a.writes w) (eqb m m) e (eq-eqb m m refl)) in
      (both.0, eqb-true (level n b l (l.lands_at w)) m both.1)

  same_reader : (r : ℕ) → r < n → a.reads r ≡ true → (b.reads r ≡ true) × (level n b l (l.reads_at r) ≡ level n a k (k.reads_at r))
  same_reader r h e =
      let m : ℕ = level n a k (k.reads_at r) in
      let same_test = those_inj n _ _ (ap (λ x. x.readers) (entries_same m (below_height n a k (k.reads_at r)))) r h in
      let both = and_parts (b.reads r) _ (sym same_test ∙ and_from (a.reads r) (eqb m m) e (eq-eqb m m refl)) in
      (both.0, eqb-true (level n b l (l.reads_at r)) m both.1)

pub history_names_accesses_lem : HistoryNamesAccesses
history_names_accesses_lem n a b k l same i h = (
  bool_iff (a.writes i) (b.writes i) (λ e. (same_writer n a b k l same i h e).0) (λ e. (same_writer n b a l k (sym same) i h e).0),
  bool_iff (a.reads i) (b.reads i) (λ e. (same_reader n a b k l same i h e).0) (λ e. (same_reader n b a l k (sym same) i h e).0),
)

pub history_decides : (n : ℕ) (a : Accesses) (k l : Clock) → history n a k ≡ history n a l → Agree n a k l
history_decides n a k l same = record {
  seen = λ w r hw hr ww rr.
      let e₁ = (same_writer n a a k l same w hw ww).1 in
      let e₂ = (same_reader n a a k l same r hr rr).1 in
      let i₁ = reached n a k w (k.reads_at r) hw ww in
      let i₂ = reached n a l w (l.reads_at r) hw ww in
      (λ h. i₂.1 (let x = i₁.0 h in omega arith), λ h. i₁.1 (let x = i₂.0 h in omega arith));
  order = λ w v hw hv ww wv.
      let e₁ = (same_writer n a a k l same w hw ww).1 in
      let e₂ = (same_writer n a a k l same v hv wv).1 in
      let i₁ = not_le (reached n a k v (k.lands_at w) hv wv) in
      let i₂ = not_le (reached n a l v (l.lands_at w) hv wv) in
      (λ h. i₂.1 (let x = i₁.0 h in omega arith), λ h. i₁.1 (let x = i₂.0 h in omega arith));
}

pub order_decides_history_lem : OrderDecidesHistory
order_decides_history_lem n a k l = (history_decides n a k l, order_decides n a k l)
