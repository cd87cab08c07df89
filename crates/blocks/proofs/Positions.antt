-- Where the operations of a block stand, once one is put elsewhere. Assumes nothing.
use Rattle.std.proofs.Common.{◌≡◌, ℕ, zero, suc, ◌+◌, ◌<◌, Bool, true, false, not, ◌&&◌, ◌||◌, eqb, ltb, List, [], ◌∷◌, ◌++◌, map, length, get_or, set, Some, None, Option, sym, refl, ap, ◌∙◌, subst, ap₂, ⊎_elim, arith, rules}
use native.Mathlib.Bridge.{le_prop}
use Rattle.std.proofs.lemmas.List.{get_or-set_same, get_or-set_other, length-map}
use Rattle.std.proofs.lemmas.Bool.{cases_eq, both_ways, eq-eqb, ne_eqb, not-true, or_parts}
use Rattle.std.specs.List.{enumerate_from, list_any}
use Rattle.std.proofs.lemmas.Bool.Decides.{nat_tests}
use Rattle.blocks.specs.declared.position.Position.{Position}
use Rattle.blocks.specs.declared.position.Entry.{Entry}
use Rattle.blocks.specs.Entries.{position_for, position_at, position_of, placed, clash, Apart, any_at, occupied, free, put}

abbrev position : (c s : ℕ) → c < 1024 → s < 8 → Position
position c s h k = record { cycle = c; slot = s; early = h; narrow = k }

pub position_there : (c s : ℕ) (h : c < 1024) (k : s < 8) → ◌≡◌ {A = Option Position} (Some (position c s h k)) (position_at c s)
position_there c s h k = by (ltb c 1024 && ltb s 8) refl (grind (arith, nat_tests))
  where
    by : (b : Bool) (e : (ltb c 1024 && ltb s 8) ≡ b) → b ≡ true → ◌≡◌ {A = Option Position} (Some (position c s h k)) (position_for c s b e)
    by true e t = ap₂ (λ (f : c < 1024) (g : s < 8). Some (position c s f g)) (le_prop h _) (le_prop k _)
    by false e t = search rules

-- the positions after a put
pub positions_put : (es : List Entry) (i : ℕ) (p : Option Position) → map position_of (put es i p) ≡ set (map position_of es) i p
positions_put [] i p = refl
positions_put (e ∷ es) zero p = refl
positions_put (e ∷ es) (suc i) p = ap (λ l. e.position ∷ l) (positions_put es i p)

set_at : (es : List Entry) (i : ℕ) (d : Entry) (p : Option Position) → set es i (record { operation = (get_or es i d).operation; position = p }) ≡ put es i p
set_at [] i d p = refl
set_at (e ∷ es) zero d p = refl
set_at (e ∷ es) (suc i) d p = ap (λ l. e ∷ l) (set_at es i d p)

-- a put as the code does it
pub set_put : (es : List Entry) (i : ℕ) (x : Entry) (p : Option Position) → x ≡ get_or es i x → set es i (record { operation = x.operation; position = p }) ≡ put es i p
set_put es i x p e = ap (λ (y : Entry). set es i (record { operation = y.operation; position = p })) e ∙ set_at es i x p

pub placed_other : (es : List Entry) (i : ℕ) (p : Option Position) (k : ℕ) → (k ≡ i → ⊥) → placed (put es i p) k ≡ placed es k
placed_other es i p k ne = ap (λ l. get_or l k None) (positions_put es i p) ∙ get_or-set_other (map position_of es) i k p None ne

pub placed_same : (es : List Entry) (i : ℕ) (p : Option Position) → i < length es → placed (put es i p) i ≡ p
placed_same es i p h =
    let m = length-map es position_of in
    ap (λ l. get_or l i None) (positions_put es i p) ∙ get_or-set_same (map position_of es) i p None (omega arith)

pub placed_push : (es : List Entry) (e : Entry) → e.position ≡ None → (i : ℕ) → placed (es ++ e ∷ []) i ≡ placed es i
placed_push [] e h zero = h
placed_push [] e h (suc i) = refl
placed_push (x ∷ xs) e h zero = refl
placed_push (x ∷ xs) e h (suc i) = placed_push xs e h i

pub apart_push : (es : List Entry) (e : Entry) → e.position ≡ None → Apart es → Apart (es ++ e ∷ [])
apart_push es e h a i j k = a i j (sym (ap₂ clash (placed_push es e h i) (placed_push es e h j)) ∙ k)

eqb_comm : (a b : ℕ) → eqb a b ≡ eqb b a
eqb_comm a b = grind (arith, nat_tests)

clash_comm : (p q : Option Position) → clash p q ≡ clash q p
clash_comm None None = refl
clash_comm None (Some q) = refl
clash_comm (Some p) None = refl
clash_comm (Some p) (Some q) = ap₂ (λ a b. a && b) (eqb_comm p.cycle q.cycle) (eqb_comm p.slot q.slot)

clash_none : (p : Option Position) → clash p None ≡ false
clash_none None = refl
clash_none (Some p) = refl

pub apart_put : (es : List Entry) (i : ℕ) (p : Option Position) → i < length es → ((j : ℕ) → (j ≡ i → ⊥) → clash (placed es j) p ≡ false) → Apart es → Apart (put es i p)
apart_put es i p h clear a j k c =
    let same = placed_same es i p h in
    let other = placed_other es i p in
    ⊎_elim
    (λ (e : j ≡ i). ⊎_elim (λ (f : k ≡ i). e ∙ sym f)
    (λ (nf : k ≡ i → ⊥). absurd (both_ways _ (clear k nf) (clash_comm (placed es k) p ∙ sym (ap₂ clash (ap (placed (put es i p)) e ∙ same) (other k nf)) ∙ c))) (cases_eq k i))
    (λ (ne : j ≡ i → ⊥). ⊎_elim
    (λ (f : k ≡ i). absurd (both_ways _ (clear j ne) (sym (ap₂ clash (other j ne) (ap (placed (put es i p)) f ∙ same)) ∙ c)))
    (λ (nf : k ≡ i → ⊥). a j k (sym (ap₂ clash (other j ne) (other k nf)) ∙ c)) (cases_eq k i))
    (cases_eq j i)

pub apart_set : (es : List Entry) (i : ℕ) (x : Entry) (p : Option Position) → x ≡ get_or es i x → i < length es → ((j : ℕ) → (j ≡ i → ⊥) → clash (placed es j) p ≡ false) → Apart es → Apart (set es i (record { operation = x.operation; position = p }))
apart_set es i x p e h free a = let P : List Entry → Type 0 = Apart in subst P (sym (set_put es i x p e)) (apart_put es i p h free a)

-- the positions, but for operation i
abbrev pub others : List Entry → ℕ → List (Option Position)
others es i = set (map position_of es) i None

-- whether an entry is none of that number, and at p
abbrev pub other_at : ℕ → Position → ℕ × Entry → Bool
other_at own p e = not (eqb e.0 own) && clash e.1.position (Some p)

past_own : (es : List Entry) (own n : ℕ) (p : Position) → own < n → list_any (other_at own p) (enumerate_from n es) ≡ any_at p (map position_of es)
past_own [] own n p h = refl
past_own (e ∷ es) own n p h =
    ap₂ (λ a b. a || b) (ap (λ t. not t && clash e.position (Some p)) (ne_eqb n own (λ e. omega arith))) (past_own es own (n + 1) p (omega arith))

from_own : (es : List Entry) (i own n : ℕ) (p : Position) → n + i ≡ own → list_any (other_at own p) (enumerate_from n es) ≡ any_at p (others es i)
from_own [] i own n p h = refl
from_own (e ∷ es) zero own n p h =
    ap₂ (λ a b. a || b) (ap (λ t. not t && clash e.position (Some p)) (eq-eqb n own (omega arith))) (past_own es own (n + 1) p (omega arith))
from_own (e ∷ es) (suc i) own n p h =
    ap₂ (λ a b. a || b) (ap (λ t. not t && clash e.position (Some p)) (ne_eqb n own (λ e. omega arith))) (from_own es i own (n + 1) p (omega arith))

-- the search for another operation at p
pub any_other : (es : List Entry) (own : ℕ) (p : Position) → list_any (other_at own p) (enumerate_from 0 es) ≡ occupied es own p
any_other es own p = from_own es own own 0 p (omega arith)

none_at : (p : Position) (qs : List (Option Position)) → any_at p qs ≡ false → (j : ℕ) → clash (get_or qs j None) (Some p) ≡ false
none_at p [] e j = refl
none_at p (q ∷ qs) e zero = (or_parts (clash q (Some p)) (any_at p qs) e).0
none_at p (q ∷ qs) e (suc j) = none_at p qs (or_parts (clash q (Some p)) (any_at p qs) e).1 j

pub clear : (es : List Entry) (i : ℕ) (p : Option Position) → free es i p ≡ true → (j : ℕ) → (j ≡ i → ⊥) → clash (placed es j) p ≡ false
clear es i None e j ne = clash_none (placed es j)
clear es i (Some p) e j ne =
    ap (λ q. clash q (Some p)) (sym (get_or-set_other (map position_of es) i j None None ne)) ∙ none_at p (others es i) (not-true (occupied es i p) e) j
