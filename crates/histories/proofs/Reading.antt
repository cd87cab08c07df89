-- What a history says of its writers and readers. Assumes nothing.
use Rattle.std.proofs.Common.{◌≡◌, ℕ, suc, ◌<◌, true, [], length, get_or, sym, ap, ◌∙◌, subst, arith}
use Rattle.std.proofs.lemmas.List.FromFn.{length-map-range_with_len, get_or-map-range_with_len}
use Rattle.std.proofs.lemmas.Bool.{eqb-true, and_parts}
use Rattle.histories.specs.Below.{greatest_below, listed}
use Rattle.histories.specs.History.{Accesses, Clock, entry, landing}
use Rattle.histories.specs.Reading.{WriterIn, ReaderIn, ReadsAs, HistoryShowsOrder}
use Rattle.histories.proofs.Counts.{some_found, count_reached, listed_those, listed_within}
use Rattle.histories.proofs.Levels.{level, at_level, height, levelled, same_by_levels, lands_there}
use Rattle.histories.proofs.Order.{reached, below_height}

module _ (n : ℕ) (a : Accesses) (k : Clock) where
  long : length (levelled n a k) ≡ suc (height n a k)
  long = length-map-range_with_len (at_level n a k) 0 (suc (height n a k))

  entry_is : (m : ℕ) → m < length (levelled n a k) → get_or (levelled n a k) m (entry [] []) ≡ at_level n a k m
  entry_is m h = let e = long in get_or-map-range_with_len (at_level n a k) 0 (suc (height n a k)) m m (entry [] []) (omega arith) (omega arith)

  in_range : (t : ℕ) → level n a k t < length (levelled n a k)
  in_range t = let b = below_height n a k t in let e = long in omega arith

  -- an operation stands in the entry of the level at which it writes or reads
  writer_of : (w : ℕ) → w < n → a.writes w ≡ true → WriterIn (levelled n a k) (level n a k (k.lands_at w)) w
  writer_of w h e = (in_range (k.lands_at w), ap (λ x. listed w x.writers) (entry_is _ (in_range (k.lands_at w))) ∙ listed_those n _ w ∙ grind arith)

  reader_of : (r : ℕ) → r < n → a.reads r ≡ true → ReaderIn (levelled n a k) (level n a k (k.reads_at r)) r
  reader_of r h e = (in_range (k.reads_at r), ap (λ x. listed r x.readers) (entry_is _ (in_range (k.reads_at r))) ∙ listed_those n _ r ∙ grind arith)

  -- and in no other
  writer_is : (w b : ℕ) → WriterIn (levelled n a k) b w → (w < n) × (a.writes w ≡ true) × (level n a k (k.lands_at w) ≡ b)
  writer_is w b i =
      let f = listed_within n _ w (ap (λ x. listed w x.writers) (sym (entry_is b i.0)) ∙ i.1) in
      let both = and_parts (a.writes w) _ f.1 in
      (f.0, both.0, eqb-true (level n a k (k.lands_at w)) b both.1)

  reader_is : (r b : ℕ) → ReaderIn (levelled n a k) b r → (r < n) × (a.reads r ≡ true) × (level n a k (k.reads_at r) ≡ b)
  reader_is r b i =
      let f = listed_within n _ r (ap (λ x. listed r x.readers) (sym (entry_is b i.0)) ∙ i.1) in
      let both = and_parts (a.reads r) _ f.1 in
      (f.0, both.0, eqb-true (level n a k (k.reads_at r)) b both.1)

  -- a landing at the level b
  lands_in : (b t : ℕ) → landing n a k t ≡ true → level n a k t ≡ b → (w : ℕ) × WriterIn (levelled n a k) b w
  lands_in b t e l =
      let x = some_found n _ e in
      let both = and_parts (a.writes x.0) _ x.2 in
      let same = ap (level n a k) (eqb-true (k.lands_at x.0) t both.1) ∙ l in
      (x.0, subst (λ c. WriterIn (levelled n a k) c x.0) same (writer_of x.0 x.1 both.0))

  levels_read : ReadsAs n a k (levelled n a k)
  levels_read = record {
    writer = λ w h e. (level n a k (k.lands_at w), writer_of w h e);
    reader = λ r h e. (level n a k (k.reads_at r), reader_of r h e);
    only_writers = λ w b i. let x = writer_is w b i in (x.0, x.1);
    only_readers = λ r b i. let x = reader_is r b i in (x.0, x.1);
    writer_once = λ w b c i j. sym (writer_is w b i).2 ∙ (writer_is w c j).2;
    reader_once = λ r b c i j. sym (reader_is r b i).2 ∙ (reader_is r c j).2;
    opening = λ w i. let x = writer_is w 0 i in let l = lands_there n a k w x.0 x.1 in grind arith;
    landing = λ b l h.
        let e = long in
        let x = count_reached (landing n a k) (suc (greatest_below n k.lands_at)) b l (omega arith) in
        lands_in b x.0 x.1 x.2;
    seen = λ w b r c i j.
        let x = writer_is w b i in
        let y = reader_is r c j in
        let q = reached n a k w (k.reads_at r) x.0 x.1 in
        (λ h. let z = q.0 h in omega arith, λ h. q.1 (omega arith));
    order = λ w b v c i j.
        let x = writer_is w b i in
        let y = writer_is v c j in
        let q = reached n a k w (k.lands_at v) x.0 x.1 in
        (λ h. let z = q.0 h in omega arith, λ h. q.1 (omega arith));
  }

pub history_shows_order_lem : HistoryShowsOrder
history_shows_order_lem n a k = subst (λ es. ReadsAs n a k es) (sym (same_by_levels n a k)) (levels_read n a k)
