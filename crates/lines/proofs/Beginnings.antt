-- The words that a text begins with. Assumes nothing.
use Rattle.std.proofs.Common.{◌≡◌, ℕ, Bool, true, false, cond, eqb, List, [], ◌∷◌, ◌++◌, length, IfSome, Some, None, Option, refl, ap, ◌∙◌, arith, Bor, eq-eqb, eqb-true, MatchOption}
use borrow.Author.Tests.{eqb-false}
use Rattle.std.proofs.lemmas.Bool.{cond-true}
use Rattle.lines.specs.Begins.{Begins}
use Rattle.lines.specs.Tables.{after, or_else, begun}

pub after_word : (w rest : List ℕ) → after w (w ++ rest) ≡ Some rest
after_word [] rest = refl
after_word (b ∷ bs) rest = cond-true (eqb b b) _ _ (eq-eqb b b refl) ∙ after_word bs rest

-- what after tells
abbrev Told : List ℕ → List ℕ → Option (List ℕ) → Type 0
Told w t None = (rest : List ℕ) → t ≡ w ++ rest → ⊥
Told w t (Some rest) = t ≡ w ++ rest

pub after_told : (w t : List ℕ) → Told w t (after w t)
after_told [] t = refl
after_told (w ∷ ws) [] = λ rest e. omega (arith, ap length e)
after_told (w ∷ ws) (b ∷ bs) = by (eqb w b) refl (after ws bs) (after_told ws bs)
  where
    by : (q : Bool) → eqb w b ≡ q → (o : Option (List ℕ)) → Told ws bs o → Told (w ∷ ws) (b ∷ bs) (cond q o None)
    by true e None h = λ rest p. h rest (cc)
    by true e (Some rest) h = let x : w ≡ b = eqb-true w b e in cc
    by false e o h = λ rest p. eqb-false w b e (cc p)

-- the same over what has a word
module _ {T : Type 0} where
  abbrev pub worded : (T → List ℕ) → List T → List ℕ → Option (T × List ℕ)
  worded word [] t = None
  worded word (x ∷ xs) t = or_else (after (word x) t) x (worded word xs t)

  -- what is found stands in front
  pub worded_sound : (word : T → List ℕ) (xs : List T) (t : List ℕ) (o : T) (rest : List ℕ) → worded word xs t ≡ Some (o, rest) → t ≡ word o ++ rest
  worded_sound word [] t o rest e = let z : ◌≡◌ {A = ℕ} 0 1 = cc in absurd (omega arith)
  worded_sound word (x ∷ xs) t o rest e = by (after (word x) t) (after_told (word x) t) e (worded_sound word xs t o rest)
    where
      by : (a : Option (List ℕ)) → Told (word x) t a → or_else a x (worded word xs t) ≡ Some (o, rest) → (worded word xs t ≡ Some (o, rest) → t ≡ word o ++ rest) → t ≡ word o ++ rest
      by None h p ih = ih p
      by (Some r) h p ih = let q : ◌≡◌ {A = T × List ℕ} (x, r) (o, rest) = cc in h ∙ ap (λ y. word y.0 ++ y.1) q

  pub nothing : (b : Option (T × List ℕ)) (o : T) (rest : List ℕ) → b ≡ None → b ≡ Some (o, rest) → ⊥
  nothing b o rest e f = let z : ◌≡◌ {A = ℕ} 0 1 = cc in omega arith

  pub the_same : (b : Option (T × List ℕ)) (o p : T) (r s : List ℕ) → b ≡ Some (o, r) → b ≡ Some (p, s) → (o ≡ p) × (r ≡ s)
  the_same b o p r s e f = let q : ◌≡◌ {A = T × List ℕ} (o, r) (p, s) = cc in (ap (λ x. x.0) q, ap (λ x. x.1) q)

  -- what a table gives, as the code has it
  abbrev pub Given : (T → List ℕ) → List T → List ℕ → Option (T × Bor (List ℕ)) → Type 0
  Given word xs t r = MatchOption r (worded word xs t ≡ None) (λ x. worded word xs t ≡ Some (x.0, x.1.now))

  pub given_sound : (word : T → List ℕ) (xs : List T) (t : List ℕ) (r : Option (T × Bor (List ℕ))) → Given word xs t r → IfSome r (λ x. t ≡ word x.0 ++ x.1.now)
  given_sound word xs t None g = tt
  given_sound word xs t (Some x) g = worded_sound word xs t x.0 x.1.now g

  pub given_only : (word : T → List ℕ) (xs : List T) (t : List ℕ) (r : Option (T × Bor (List ℕ))) → Given word xs t r → (o : T) (rest : List ℕ) → worded word xs t ≡ Some (o, rest) → MatchOption r ⊥ (λ x. (x.0 ≡ o) × (x.1.now ≡ rest))
  given_only word xs t None g o rest e = nothing (worded word xs t) o rest g e
  given_only word xs t (Some x) g o rest e = the_same (worded word xs t) x.0 o x.1.now rest g e

  -- a table that tells all words apart
  pub table_begins : (word : T → List ℕ) (xs : List T) → ((x : T) (rest : List ℕ) → worded word xs (word x ++ rest) ≡ Some (x, rest)) → (t : List ℕ) (r : Option (T × Bor (List ℕ))) → Given word xs t r → Begins (λ x rest. t ≡ word x ++ rest) r
  table_begins word xs each t r g = record { sound = given_sound word xs t r g; complete = λ x rest e. given_only word xs t r g x rest (ap (worded word xs) e ∙ each x rest) }

  -- the first entry, by what stands in front
  pub first_hit : (x : T × Bor (List ℕ)) (xs : List (T × Bor (List ℕ))) (t rest : List ℕ) → t ≡ x.1.now ++ rest → begun (x ∷ xs) t ≡ Some (x.0, rest)
  first_hit x xs t rest e = ap (λ a. or_else a x.0 (begun xs t)) (ap (after x.1.now) e ∙ after_word x.1.now rest)

  pub first_miss : (x : T × Bor (List ℕ)) (xs : List (T × Bor (List ℕ))) (t : List ℕ) → ((rest : List ℕ) → t ≡ x.1.now ++ rest → ⊥) → begun (x ∷ xs) t ≡ begun xs t
  first_miss x xs t never = by (after x.1.now t) (after_told x.1.now t)
    where
      by : (a : Option (List ℕ)) → Told x.1.now t a → or_else a x.0 (begun xs t) ≡ begun xs t
      by None p = refl
      by (Some r) p = absurd (never r p)
