-- The first entry of a table whose word a text begins with. Assumes nothing.
use Rattle.std.proofs.Common.{◌≡◌, ℕ, zero, suc, ◌+◌, ◌<◌, true, List, [], ◌∷◌, ◌++◌, length, get_or, MatchOption, IfSome, Some, None, Option, Bor, sym, refl, ap, ◌∙◌, subst, arith}
use denote.Param.Members.{Mut}
use Rattle.std.specs.Fn.{Called}
use Rattle.std.specs.Option.{option_map, IsSomeAnd}
use Rattle.std.specs.Iterator.Runs.{SomeRun, EveryRun, ItemsMapTo, AllItemsGive, IsFirstToGive}
use Rattle.lines.specs.Tables.{begun}
use Rattle.lines.proofs.Sayings.{none_some, some_same}
use Rattle.lines.proofs.Beginnings.{first_hit, first_miss}

abbrev Entry : Type 0 → Type 0
Entry T = T × Bor (List ℕ)

module _ {T : Type 0} (t : List ℕ) where
  abbrev Never : Entry T → Type 0
  Never y = (rest : List ℕ) → t ≡ y.1.now ++ rest → ⊥

  none_begun : (xs : List (Entry T)) → ((k : ℕ) (d : Entry T) → k < length xs → Never (get_or xs k d)) → begun xs t ≡ None
  none_begun [] h = refl
  none_begun (x ∷ xs) h = first_miss x xs t (h 0 x (omega arith)) ∙ none_begun xs (λ k d l. h (suc k) d (omega arith))

  one_begun : (xs : List (Entry T)) (i : ℕ) (d : Entry T) (rest : List ℕ) → i < length xs → ((k : ℕ) → k < i → Never (get_or xs k d)) → t ≡ (get_or xs i d).1.now ++ rest → begun xs t ≡ Some ((get_or xs i d).0, rest)
  one_begun [] i d rest l h e = absurd (omega arith)
  one_begun (x ∷ xs) zero d rest l h e = first_hit x xs t rest e
  one_begun (x ∷ xs) (suc i) d rest l h e = first_miss x xs t (h 0 (omega arith)) ∙ one_begun xs i d rest (omega arith) (λ k m. h (suc k) (omega arith)) e

-- an item at a place of a run
at_place : {A B : Type 0} (v : A → B) (o : Option A) (y : B) (P : A → Type 0) → option_map v o ≡ Some y → IfSome o P → (x : A) × (v x ≡ y) × P x
at_place v None y P e h = absurd (none_some y e)
at_place v (Some x) y P e h = (x, some_same (v x) y e, h)

some_place : {A B : Type 0} (v : A → B) (o : Option A) (y : B) (P : A → Type 0) → option_map v o ≡ Some y → IsSomeAnd o P → (x : A) × (v x ≡ y) × P x
some_place v None y P e h = absurd (none_some y e)
some_place v (Some x) y P e h = (x, some_same (v x) y e, h)

pub found_first : {T F S : Type 0} {steps : S → Option (Bor (Entry T)) → S → Type 0} {g : Mut F (Bor (Entry T) × Unit {0}) (Option (Entry T))} {f : F} {s : S} (table : List (Entry T)) (t : List ℕ) (r : Option (Entry T)) (left : S → List (Entry T))
    → SomeRun steps s (λ p. MatchOption r ((p.whole ≡ true) × AllItemsGive p g f None) (λ y. (i : ℕ) × (i < p.len) × (p.len ≡ i + 1) × IsFirstToGive p g f (Some y) None i))
    → EveryRun steps (λ p. ItemsMapTo p (λ y. y.now) (left p.from)) → left s ≡ table
    → ((x : Bor (Entry T)) (q : Option (Entry T)) (h : F) → Called g f (x, tt) q h → (h ≡ f) × MatchOption q (Never t x.now) (λ y. (y.0 ≡ x.now.0) × (t ≡ x.now.1.now ++ y.1.now)))
    → MatchOption r (begun table t ≡ None) (λ x. begun table t ≡ Some (x.0, x.1.now))
found_first {g = g} {f = f} table t None left (p, from, o) every is says =
    let whole : p.whole ≡ true = o.0 in
    let gives : AllItemsGive p g f None = o.1 in
    let m = every p p.seen in
    let same : left p.from ≡ table = ap left from ∙ is in
    ap (λ xs. begun xs t) (sym same) ∙ none_begun t (left p.from) (λ k d l.
    let a = at_place (λ y. y.now) (p.at k) (get_or (left p.from) k d) (λ x. Called g f (x, tt) None f) (m.2 k d (omega (arith, m.1 whole, l))) (gives (λ a q h c. (says a.0 q h c).0) k) in
    subst (Never t) a.1 (says a.0 None f a.2).1)
found_first {g = g} {f = f} table t (Some y) left (p, from, o) every is says =
    let i : ℕ = o.0 in
    let l : i < p.len = o.1 in
    let first : IsFirstToGive p g f (Some y) None i = o.3 in
    let m = every p p.seen in
    let same : left p.from ≡ table = ap left from ∙ is in
    let z = first (λ a q h c. (says a.0 q h c).0) in
    let d : Entry _ = (y.0, y.1) in
    let b = some_place (λ x. x.now) (p.at i) (get_or (left p.from) i d) (λ x. Called g f (x, tt) (Some y) f) (m.2 i d l) z.0 in
    let u = (says b.0 (Some y) f b.2).1 in
    ap (λ xs. begun xs t) (sym same)
    ∙ one_begun t (left p.from) i d y.1.now (omega (arith, l, m.0)) (λ k n.
    let a = some_place (λ x. x.now) (p.at k) (get_or (left p.from) k d) (λ x. Called g f (x, tt) None f) (m.2 k d (omega (arith, l, n))) (z.1 k n) in
    subst (Never t) a.1 (says a.0 None f a.2).1) (u.1 ∙ ap (λ x. x.1.now ++ y.1.now) b.1)
    ∙ ap (λ x. Some (x.0, y.1.now)) (sym b.1) ∙ ap (λ v. Some (v, y.1.now)) (sym u.0)

-- what one call gives: what stands behind the entry's word, with what the word stands for
abbrev pub Tried : {T : Type 0} → List ℕ → Entry T → Option (Entry T) → Type 0
Tried t x q = (o : Option (Bor (List ℕ))) × MatchOption o ((rest : List ℕ) → t ≡ x.1.now ++ rest → ⊥) (λ z. t ≡ x.1.now ++ z.now) × MatchOption o (q ≡ None) (λ z. q ≡ Some (x.0, z))

pub tried : {T : Type 0} (t : List ℕ) (x : Entry T) (q : Option (Entry T)) → Tried t x q → MatchOption q ((rest : List ℕ) → t ≡ x.1.now ++ rest → ⊥) (λ y. (y.0 ≡ x.0) × (t ≡ x.1.now ++ y.1.now))
tried t x q (None, never, e) = subst (λ o. MatchOption o ((rest : List ℕ) → t ≡ x.1.now ++ rest → ⊥) (λ y. (y.0 ≡ x.0) × (t ≡ x.1.now ++ y.1.now))) (sym e) never
tried t x q (Some z, is, e) = subst (λ o. MatchOption o ((rest : List ℕ) → t ≡ x.1.now ++ rest → ⊥) (λ y. (y.0 ≡ x.0) × (t ≡ x.1.now ++ y.1.now))) (sym e) (refl, is)
