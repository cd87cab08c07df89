-- Guards and sources, token by token. Assumes nothing.
use Rattle.std.proofs.Common.{◌≡◌, ℕ, Bool, true, false, List, [], ◌∷◌, ◌++◌, get_or, Some, None, codes, Option, sym, refl, ap, ◌∙◌, ⊎_elim, append-nil, arith}
use Rattle.std.specs.Bool.{then_some}
use Rattle.std.specs.Int.{IsInRange}
use Rattle.std.proofs.lemmas.Bool.{false≢true, cases_Bool, cond-true, cond-false}
use Rattle.lines.specs.Banks.{WrittenPredicate}
use Rattle.lines.specs.declared.written.WrittenRegister.TheVariants as name
use Rattle.lines.specs.declared.written.WrittenOperand.{WrittenOperand}
use Rattle.lines.specs.declared.written.WrittenOperand.TheVariants as operand
use Rattle.lines.specs.declared.written.WrittenSources.{WrittenSources}
use Rattle.lines.specs.declared.written.WrittenSources.TheVariants.{One, Two}
use Rattle.lines.specs.declared.written.Token.TheVariants as token
use Rattle.lines.specs.Numbers.{Short}
use Rattle.lines.specs.Tokens.{TokenAt}
use Rattle.lines.specs.Written.{always, guard_text, operand_text, sources_text, predicate_name_text, predicate_number, ShortOperand, ShortSources}
use Rattle.lines.specs.Said.{Says, Passes, Reads, Whole, operand_token}
use Rattle.lines.proofs.Sayings.{none_some, some_same}

-- a text begins with one byte
pub first : {s t : List ℕ} → s ≡ t → get_or s 0 0 ≡ get_or t 0 0
first e = ap (λ l. get_or l 0 0) e

pub written_out : (g : WrittenPredicate) (t : List ℕ) → (t ≡ [] → ⊥) → t ≡ guard_text g → t ≡ codes " if " ++ predicate_name_text g
written_out g t some e = ⊎_elim (λ b. absurd (some (e ∙ cond-true _ _ _ b))) (λ b. e ∙ cond-false _ _ _ b) (cases_Bool (always g))

-- a guard that is written out, read up to t2
pub guard_read : (t0 t1 t2 : List ℕ) (r : Option WrittenPredicate) → (t0 ≡ [] → ⊥) → Passes (codes " if ") t0 (Some tt) t1 → Says (λ p. token.Register (name.Predicate p)) t1 r t2 → (g : WrittenPredicate) → Short (predicate_number g) → t0 ≡ guard_text g → (r ≡ Some g) × (t2 ≡ [])
guard_read t0 t1 t2 r some p s g short e =
    let e1 = (p.complete (predicate_name_text g) (written_out g t0 some e)).1 in
    s.complete g [] (record { short = short; whole = e1 ∙ sym (append-nil (predicate_name_text g)); ends = tt })

-- it stands alone at the end, and is not p1, or there is none
pub guard_last : (t0 t1 t2 : List ℕ) (g : WrittenPredicate) (b : Bool) → (t0 ≡ [] → ⊥) → Passes (codes " if ") t0 (Some tt) t1 → Says (λ p. token.Register (name.Predicate p)) t1 (Some g) t2 → (b ≡ true → (t2 ≡ []) × (always g ≡ false)) → (t2 ≡ [] → always g ≡ false → b ≡ true) → Whole guard_text (λ g. Short (predicate_number g)) t0 (then_some b g)
guard_last t0 t1 t2 g true some p s is back = record {
  sound = (s.sound.short, p.sound ∙ ap (λ l. codes " if " ++ l) (s.sound.whole ∙ ap (λ l. predicate_name_text g ++ l) (is refl).0 ∙ append-nil (predicate_name_text g)) ∙ sym (cond-false _ _ _ (is refl).1));
  complete = λ x short e. (guard_read t0 t1 t2 (Some g) some p s x short e).0;
}
guard_last t0 t1 t2 g false some p s is back = record {
  sound = tt;
  complete = λ x short e.
      let q = guard_read t0 t1 t2 (Some g) some p s x short e in
      let out : always g ≡ false = ⊎_elim (λ a. absurd (some (e ∙ cond-true _ _ _ (ap always (sym (some_same g x q.0)) ∙ a)))) (λ a. a) (cases_Bool (always g)) in
      absurd (false≢true (back q.1 out));
}

pub operand_at : (a : WrittenOperand) (t : List ℕ) (b : ℕ) (bs : List ℕ) → ShortOperand a → t ≡ operand_text a ++ b ∷ bs → (IsInRange 48 57 b → ⊥) → TokenAt t (operand_token a) (b ∷ bs)
operand_at (operand.Register x) t b bs s e d = record { short = s; whole = e; ends = d }
operand_at (operand.Literal z) t b bs s e d = record { short = s; whole = e; ends = d }

pub operand_back : (a : WrittenOperand) (t rest : List ℕ) → TokenAt t (operand_token a) rest → ShortOperand a × (t ≡ operand_text a ++ rest)
operand_back (operand.Register x) t rest h = (h.short, h.whole)
operand_back (operand.Literal z) t rest h = (h.short, h.whole)

abbrev pub Sources : List ℕ → Option WrittenSources → List ℕ → Type 0
Sources = Reads (λ s rest. sources_text s (codes ")" ++ rest)) ShortSources

module _ (t0 t1 : List ℕ) where
  one_read : (r : Option WrittenOperand) → Says operand_token t0 r t1 → (a : WrittenOperand) (after : List ℕ) → ShortOperand a → t0 ≡ operand_text a ++ (codes ")" ++ after) → (r ≡ Some a) × (t1 ≡ codes ")" ++ after)
  one_read r s a after h e = s.complete a (codes ")" ++ after) (operand_at a t0 41 after h e (λ d. omega (arith, d)))

  two_read : (r : Option WrittenOperand) → Says operand_token t0 r t1 → (a : WrittenOperand) (more : List ℕ) → ShortOperand a → t0 ≡ operand_text a ++ (codes ", " ++ more) → (r ≡ Some a) × (t1 ≡ codes ", " ++ more)
  two_read r s a more h e = s.complete a (codes ", " ++ more) (operand_at a t0 44 (32 ∷ more) h e (λ d. omega (arith, d)))

  pub sources_none : Says operand_token t0 None t1 → (rest : List ℕ) → Sources t0 None rest
  sources_none s rest = record { sound = tt; complete = by }
    where
      by : (x : WrittenSources) (after : List ℕ) → ShortSources x → t0 ≡ sources_text x (codes ")" ++ after) → (None ≡ Some x) × (rest ≡ after)
      by (One a) after h e = absurd (none_some _ (one_read None s a after h e).0)
      by (Two a b) after h e = absurd (none_some _ (two_read None s a (operand_text b ++ (codes ")" ++ after)) h.0 e).0)

  module _ (a : WrittenOperand) (s : Says operand_token t0 (Some a) t1) where
    pub sources_one : (t2 : List ℕ) → Passes (codes ")") t1 (Some tt) t2 → Sources t0 (Some (One a)) t2
    sources_one t2 p =
        let back = operand_back a t0 t1 s.sound in
        record { sound = (back.0, back.1 ∙ ap (λ l. operand_text a ++ l) p.sound); complete = by }
      where
        by : (x : WrittenSources) (after : List ℕ) → ShortSources x → t0 ≡ sources_text x (codes ")" ++ after) → (Some (One a) ≡ Some x) × (t2 ≡ after)
        by (One c) after h e =
            let q = one_read (Some a) s c after h e in
            (ap (λ y. Some (One y)) (some_same a c q.0), (p.complete after q.1).1)
        by (Two c d) after h e = absurd (omega (arith, first (sym p.sound ∙ (two_read (Some a) s c (operand_text d ++ (codes ")" ++ after)) h.0 e).1)))

    module _ (t2 : List ℕ) (p : Passes (codes ")") t1 None t2) where
      pub sources_unclosed : (t3 : List ℕ) → Passes (codes ", ") t1 None t3 → Sources t0 None t3
      sources_unclosed t3 q = record { sound = tt; complete = by }
        where
          by : (x : WrittenSources) (after : List ℕ) → ShortSources x → t0 ≡ sources_text x (codes ")" ++ after) → (None ≡ Some x) × (t3 ≡ after)
          by (One c) after h e = absurd (none_some tt (p.complete after (one_read (Some a) s c after h e).1).0)
          by (Two c d) after h e =
              let more = operand_text d ++ (codes ")" ++ after) in
              absurd (none_some tt (q.complete more (two_read (Some a) s c more h.0 e).1).0)

      module _ (t3 t4 : List ℕ) (q : Passes (codes ", ") t1 (Some tt) t3) where
        second_read : (r : Option WrittenOperand) → Says operand_token t3 r t4 → (c d : WrittenOperand) (after : List ℕ) → ShortOperand c × ShortOperand d → t0 ≡ sources_text (Two c d) (codes ")" ++ after) → (a ≡ c) × (r ≡ Some d) × (t4 ≡ codes ")" ++ after)
        second_read r s2 c d after h e =
            let more = operand_text d ++ (codes ")" ++ after) in
            let u = two_read (Some a) s c more h.0 e in
            let e3 = (q.complete more u.1).1 in
            let v = s2.complete d (codes ")" ++ after) (operand_at d t3 41 after h.1 e3 (λ b. omega (arith, b))) in
            (some_same a c u.0, v.0, v.1)

        pub sources_second_none : Says operand_token t3 None t4 → (rest : List ℕ) → Sources t0 None rest
        sources_second_none s2 rest = record { sound = tt; complete = by }
          where
            by : (x : WrittenSources) (after : List ℕ) → ShortSources x → t0 ≡ sources_text x (codes ")" ++ after) → (None ≡ Some x) × (rest ≡ after)
            by (One c) after h e = absurd (none_some tt (p.complete after (one_read (Some a) s c after h e).1).0)
            by (Two c d) after h e = absurd (none_some _ (second_read None s2 c d after h e).1)

        module _ (b : WrittenOperand) (s2 : Says operand_token t3 (Some b) t4) (t5 : List ℕ) where
          pub sources_two_unclosed : Passes (codes ")") t4 None t5 → Sources t0 None t5
          sources_two_unclosed z = record { sound = tt; complete = by }
            where
              by : (x : WrittenSources) (after : List ℕ) → ShortSources x → t0 ≡ sources_text x (codes ")" ++ after) → (None ≡ Some x) × (t5 ≡ after)
              by (One c) after h e = absurd (none_some tt (p.complete after (one_read (Some a) s c after h e).1).0)
              by (Two c d) after h e = absurd (none_some tt (z.complete after (second_read (Some b) s2 c d after h e).2).0)

          pub sources_two : Passes (codes ")") t4 (Some tt) t5 → Sources t0 (Some (Two a b)) t5
          sources_two z =
              let u = operand_back a t0 t1 s.sound in
              let v = operand_back b t3 t4 s2.sound in
              record {
                sound = ((u.0, v.0), u.1 ∙ ap (λ l. operand_text a ++ l) (q.sound ∙ ap (λ l. codes ", " ++ l) (v.1 ∙ ap (λ l. operand_text b ++ l) z.sound)));
                complete = by;
              }
            where
              by : (x : WrittenSources) (after : List ℕ) → ShortSources x → t0 ≡ sources_text x (codes ")" ++ after) → (Some (Two a b) ≡ Some x) × (t5 ≡ after)
              by (One c) after h e = absurd (none_some tt (p.complete after (one_read (Some a) s c after h e).1).0)
              by (Two c d) after h e =
                  let w = second_read (Some b) s2 c d after h e in
                  (ap (λ y. Some (Two y b)) w.0 ∙ ap (λ y. Some (Two c y)) (some_same b d w.1), (z.complete after w.2).1)
