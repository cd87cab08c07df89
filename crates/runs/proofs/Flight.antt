-- Lists of writes and of results in flight. Assumes nothing.
use Rattle.std.proofs.Common.{◌≡◌, ℕ, Bool, true, false, cond, eqb, List, [], ◌∷◌, ◌++◌, sym, refl, ap, ◌∙◌}
use Rattle.std.proofs.lemmas.Bool.{or_parts, both_ways}
use Rattle.runs.specs.Machine.{Write, Pending, with_register, write_all, writes_to, in_flight, of_writer, due_in, not_due_in, landed_all}

-- the value of the register q after some writes
abbrev pub last_write : {V : Type 0} → ℕ → List (Write V) → V → V
last_write q [] v = v
last_write q (x ∷ xs) v = last_write q xs (cond (eqb q x.to) x.value v)

pub cond_same : {A : Type 0} (b : Bool) (x : A) → x ≡ cond b x x
cond_same true x = refl
cond_same false x = refl

module _ {V : Type 0} where
  pub write_all_at : (xs : List (Write V)) (r : ℕ → V) (q : ℕ) → write_all xs r q ≡ last_write q xs (r q)
  write_all_at [] r q = refl
  write_all_at (x ∷ xs) r q = write_all_at xs (with_register r x.to x.value) q

  pub landed_in_flight : (d i : ℕ) (xs : List (Write V)) (r : ℕ → V) (q : ℕ) → landed_all (in_flight d i xs) r q ≡ last_write q xs (r q)
  landed_in_flight d i [] r q = refl
  landed_in_flight d i (x ∷ xs) r q = landed_in_flight d i xs (with_register r x.to x.value) q

  pub last_write_none : (q : ℕ) (xs : List (Write V)) (v : V) → writes_to q xs ≡ false → last_write q xs v ≡ v
  last_write_none q [] v e = refl
  last_write_none q (x ∷ xs) v e =
      let both = or_parts (eqb q x.to) (writes_to q xs) e in
      ap (λ b. last_write q xs (cond b x.value v)) both.0 ∙ last_write_none q xs v both.1

  -- the results of one writer
  pub of-writer-++ : (w : ℕ) (xs ys : List (Pending V)) → of_writer w (xs ++ ys) ≡ of_writer w xs ++ of_writer w ys
  of-writer-++ w [] ys = refl
  of-writer-++ w (x ∷ xs) ys = by (eqb x.writer w) (of-writer-++ w xs ys)
    where
      by : (b : Bool) → of_writer w (xs ++ ys) ≡ of_writer w xs ++ of_writer w ys → cond b (x ∷ of_writer w (xs ++ ys)) (of_writer w (xs ++ ys)) ≡ cond b (x ∷ of_writer w xs) (of_writer w xs) ++ of_writer w ys
      by true ih = ap (λ l. x ∷ l) ih
      by false ih = ih

  pub of_writer_in_flight : (w d i : ℕ) (xs : List (Write V)) → of_writer w (in_flight d i xs) ≡ cond (eqb i w) (in_flight d i xs) []
  of_writer_in_flight w d i [] = cond_same (eqb i w) []
  of_writer_in_flight w d i (x ∷ xs) = by (eqb i w) (of_writer_in_flight w d i xs)
    where
      by : (b : Bool) → of_writer w (in_flight d i xs) ≡ cond b (in_flight d i xs) [] →
          cond b (record { due = d; writer = i; to = x.to; value = x.value } ∷ of_writer w (in_flight d i xs)) (of_writer w (in_flight d i xs)) ≡ cond b (in_flight d i (x ∷ xs)) []
      by true ih = ap (λ l. record { due = d; writer = i; to = x.to; value = x.value } ∷ l) ih
      by false ih = ih

  pub due_in_flight : (t d i : ℕ) (xs : List (Write V)) → due_in t (in_flight d i xs) ≡ cond (eqb d t) (in_flight d i xs) []
  due_in_flight t d i [] = cond_same (eqb d t) []
  due_in_flight t d i (x ∷ xs) = by (eqb d t) (due_in_flight t d i xs)
    where
      by : (b : Bool) → due_in t (in_flight d i xs) ≡ cond b (in_flight d i xs) [] →
          cond b (record { due = d; writer = i; to = x.to; value = x.value } ∷ due_in t (in_flight d i xs)) (due_in t (in_flight d i xs)) ≡ cond b (in_flight d i (x ∷ xs)) []
      by true ih = ap (λ l. record { due = d; writer = i; to = x.to; value = x.value } ∷ l) ih
      by false ih = ih

  pub not_due_in_flight : (t d i : ℕ) (xs : List (Write V)) → not_due_in t (in_flight d i xs) ≡ cond (eqb d t) [] (in_flight d i xs)
  not_due_in_flight t d i [] = cond_same (eqb d t) []
  not_due_in_flight t d i (x ∷ xs) = by (eqb d t) (not_due_in_flight t d i xs)
    where
      by : (b : Bool) → not_due_in t (in_flight d i xs) ≡ cond b [] (in_flight d i xs) →
          cond b (not_due_in t (in_flight d i xs)) (record { due = d; writer = i; to = x.to; value = x.value } ∷ not_due_in t (in_flight d i xs)) ≡ cond b [] (in_flight d i (x ∷ xs))
      by true ih = ih
      by false ih = ap (λ l. record { due = d; writer = i; to = x.to; value = x.value } ∷ l) ih

  pub of_writer_due : (w t : ℕ) (xs : List (Pending V)) → of_writer w (due_in t xs) ≡ due_in t (of_writer w xs)
  of_writer_due w t [] = refl
  of_writer_due w t (x ∷ xs) = by (eqb x.due t) refl (eqb x.writer w) refl (of_writer_due w t xs)
    where
      by : (b : Bool) → eqb x.due t ≡ b → (c : Bool) → eqb x.writer w ≡ c → of_writer w (due_in t xs) ≡ due_in t (of_writer w xs) →
          of_writer w (cond b (x ∷ due_in t xs) (due_in t xs)) ≡ due_in t (cond c (x ∷ of_writer w xs) (of_writer w xs))
      by true e true q ih = ap (λ z. cond z (x ∷ of_writer w (due_in t xs)) (of_writer w (due_in t xs))) q ∙ ap (λ l. x ∷ l) ih ∙ sym (ap (λ z. cond z (x ∷ due_in t (of_writer w xs)) (due_in t (of_writer w xs))) e)
      by true e false q ih = ap (λ z. cond z (x ∷ of_writer w (due_in t xs)) (of_writer w (due_in t xs))) q ∙ ih
      by false e true q ih = ih ∙ sym (ap (λ z. cond z (x ∷ due_in t (of_writer w xs)) (due_in t (of_writer w xs))) e)
      by false e false q ih = ih

  pub of_writer_not_due : (w t : ℕ) (xs : List (Pending V)) → of_writer w (not_due_in t xs) ≡ not_due_in t (of_writer w xs)
  of_writer_not_due w t [] = refl
  of_writer_not_due w t (x ∷ xs) = by (eqb x.due t) refl (eqb x.writer w) refl (of_writer_not_due w t xs)
    where
      by : (b : Bool) → eqb x.due t ≡ b → (c : Bool) → eqb x.writer w ≡ c → of_writer w (not_due_in t xs) ≡ not_due_in t (of_writer w xs) →
          of_writer w (cond b (not_due_in t xs) (x ∷ not_due_in t xs)) ≡ not_due_in t (cond c (x ∷ of_writer w xs) (of_writer w xs))
      by true e true q ih = ih ∙ sym (ap (λ z. cond z (not_due_in t (of_writer w xs)) (x ∷ not_due_in t (of_writer w xs))) e)
      by true e false q ih = ih
      by false e true q ih = ap (λ z. cond z (x ∷ of_writer w (not_due_in t xs)) (of_writer w (not_due_in t xs))) q ∙ ap (λ l. x ∷ l) ih ∙ sym (ap (λ z. cond z (not_due_in t (of_writer w xs)) (x ∷ not_due_in t (of_writer w xs))) e)
      by false e false q ih = ap (λ z. cond z (x ∷ of_writer w (not_due_in t xs)) (of_writer w (not_due_in t xs))) q ∙ ih

  -- an operation with nothing in flight writes nothing
  abbrev is_empty : List (Pending V) → Bool
  is_empty [] = true
  is_empty (x ∷ xs) = false

  pub nothing_in_flight : (d i : ℕ) (xs : List (Write V)) → [] ≡ in_flight d i xs → (q : ℕ) (v : V) → last_write q xs v ≡ v
  nothing_in_flight d i [] e q v = refl
  nothing_in_flight d i (x ∷ xs) e q v = absurd (let z : false ≡ true = sym (ap is_empty e) in both_ways false refl z)
