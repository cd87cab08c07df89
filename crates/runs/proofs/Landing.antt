-- Landings in one pass. Assumes nothing.
use Rattle.std.proofs.Common.{◌≡◌, ℕ, zero, suc, ◌<◌, ◌≤◌, true, cond, ◌&&◌, ltb, leb, List, [], ◌∷◌, ◌++◌, set, sym, refl, ap, ◌∙◌, ap₂, inl, inr, arith}
use Rattle.std.proofs.lemmas.Bool.{cases_lt, and_parts, leb-true, ltb-true, eq-eqb, ne_eqb}
use Rattle.runs.specs.Machine.{Pending, of_writer}
use Rattle.runs.specs.Cells.{landed_all_cells, land_below_cells}
use Rattle.runs.specs.Landing.{ordered, ascends, LandsByWriter, LandsAsListed}

module _ {V : Type 0} where
  pub landed-all-++ : (xs ys : List (Pending V)) (r : List V) → landed_all_cells (xs ++ ys) r ≡ landed_all_cells ys (landed_all_cells xs r)
  landed-all-++ [] ys r = refl
  landed-all-++ (x ∷ xs) ys r = landed-all-++ xs ys (set r x.to x.value)

  in_order : (n : ℕ) (fl : List (Pending V)) (r : List V) → land_below_cells n fl r ≡ landed_all_cells (ordered n fl) r
  in_order zero fl r = refl
  in_order (suc w) fl r = ap (landed_all_cells (of_writer w fl)) (in_order w fl r) ∙ sym (landed-all-++ (ordered w fl) (of_writer w fl) r)

  -- no results of a writer below the lowest
  none_below : (n lo v : ℕ) (xs : List (Pending V)) → v < lo → ascends n lo xs ≡ true → of_writer v xs ≡ []
  none_below n lo v [] l h = refl
  none_below n lo v (x ∷ xs) l h =
      let both = and_parts (leb lo x.writer && ltb x.writer n) (ascends n x.writer xs) h in
      let low : lo ≤ x.writer = leb-true lo x.writer (and_parts (leb lo x.writer) (ltb x.writer n) both.0).0 in
      ap (λ b. cond b (x ∷ of_writer v xs) (of_writer v xs)) (ne_eqb x.writer v (omega arith)) ∙ none_below n x.writer v xs (omega arith) both.1

  none_ordered : (n lo m : ℕ) (xs : List (Pending V)) → m ≤ lo → ascends n lo xs ≡ true → ordered m xs ≡ []
  none_ordered n lo zero xs l h = refl
  none_ordered n lo (suc m) xs l h = ap₂ ◌++◌ (none_ordered n lo m xs (omega arith) h) (none_below n lo m xs l h)

  first_listed : (n m : ℕ) (x : Pending V) (xs : List (Pending V)) → x.writer < m → ascends n x.writer (x ∷ xs) ≡ true → ordered m (x ∷ xs) ≡ x ∷ ordered m xs
  first_listed n zero x xs l h = absurd (omega arith)
  first_listed n (suc m) x xs l h = elim (cases_lt x.writer m) [
    | inl g ↦ ap₂ ◌++◌ (first_listed n m x xs g h) (ap (λ b. cond b (x ∷ of_writer m xs) (of_writer m xs)) (ne_eqb x.writer m (omega arith)))
    | inr g ↦ (
        let e : x.writer ≡ m = omega arith in
        let rest = (and_parts (leb x.writer x.writer && ltb x.writer n) (ascends n x.writer xs) h).1 in
        ap₂ ◌++◌ (none_ordered n x.writer m (x ∷ xs) (omega arith) h) (ap (λ b. cond b (x ∷ of_writer m xs) (of_writer m xs)) (eq-eqb x.writer m e))
        ∙ ap (λ ys. x ∷ (ys ++ of_writer m xs)) (sym (none_ordered n x.writer m xs (omega arith) rest)))
  ]

  as_listed : (n lo : ℕ) (xs : List (Pending V)) → ascends n lo xs ≡ true → ordered n xs ≡ xs
  as_listed n lo [] h = nothing n
    where
      nothing : (n : ℕ) → ordered {V = V} n [] ≡ []
      nothing zero = refl
      nothing (suc n) = ap (λ ys. ys ++ []) (nothing n)
  as_listed n lo (x ∷ xs) h =
      let both = and_parts (leb lo x.writer && ltb x.writer n) (ascends n x.writer xs) h in
      let high : x.writer < n = ltb-true x.writer n (and_parts (leb lo x.writer) (ltb x.writer n) both.0).1 in
      first_listed n n x xs high (grind arith) ∙ ap (λ ys. x ∷ ys) (as_listed n x.writer xs both.1)

pub lands_by_writer : (V : Type 0) → LandsByWriter V
lands_by_writer V n fl r = in_order n fl r

pub lands_as_listed : (V : Type 0) → LandsAsListed V
lands_as_listed V n fl r h = in_order n fl r ∙ ap (λ xs. landed_all_cells xs r) (as_listed n 0 fl h)
