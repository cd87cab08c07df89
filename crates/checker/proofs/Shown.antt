-- A violation that is found is there, and shows. Assumes nothing.
use Rattle.std.proofs.Common.{◌≡◌, ℕ, ◌+◌, ◌<◌, ◌≤◌, Bool, true, false, cond, not, ◌&&◌, ◌||◌, eqb, ltb, ◌↔◌, List, get_or, sym, refl, ap, ◌∙◌, ap₂, inl, inr, arith}
use Rattle.std.proofs.lemmas.Bool.{leb-false, ltb-false, eqb-true, eq-eqb, ne_eqb, lt-ltb, and_parts, and_from, or_left, or_right, cases_Bool}
use Rattle.operations.specs.declared.refusal.Dependence.{Dependence}
use Rattle.operations.specs.declared.refusal.Dependence.TheVariants.{Flow, Anti, Output, Memory}
use Rattle.operations.specs.declared.refusal.Violation.{Violation}
use Rattle.registers.specs.declared.register.Register.{Register}
use Rattle.registers.specs.declared.register.Place.{Place}
use Rattle.registers.specs.declared.register.Place.TheVariants as place
use Rattle.histories.specs.Schedule as schedule
use Rattle.histories.specs.Schedule.{Program, Schedule, Sound, Same, none_withheld, FlowKept, AntiKept, OutputKept, ConflictKept}
use Rattle.histories.proofs.Dependences.{broken_always_shows_lem}
use Rattle.checker.specs.declared.placed.Placed.{Placed}
use Rattle.checker.specs.Pairs.{reads_at, writes_at, linked, holds, broken, least_for, Breaks, Found}
use Rattle.checker.specs.Seen.{Tied, Seen}
use Rattle.checker.specs.Verdicts.{Depends, Holds, moved, NamedLatencies, Shows}
use Rattle.checker.proofs.Linked.{two_of}

clash : {A : Type 0} → true ≡ false → A
clash e = let z : ◌≡◌ {A = ℕ} 0 1 = cc in absurd (omega arith)

is_false : (b : Bool) → not b ≡ true → b ≡ false
is_false true e = sym e
is_false false e = refl

-- an operation that is moved is where it is moved to, and the others stay
moved_to : (s : Schedule) (j c b : ℕ) → (moved s j c b).cycle j ≡ c
moved_to s j c b = ap (λ t. cond t c (s.cycle j)) (eq-eqb j j refl)

moved_slot : (s : Schedule) (j c b : ℕ) → (moved s j c b).slot j ≡ b
moved_slot s j c b = ap (λ t. cond t b (s.slot j)) (eq-eqb j j refl)

stays : (s : Schedule) (i j c b : ℕ) → i < j → (moved s j c b).cycle i ≡ s.cycle i
stays s i j c b l = ap (λ t. cond t c (s.cycle i)) (ne_eqb i j (λ e. omega arith))

stays_slot : (s : Schedule) (i j c b : ℕ) → i < j → (moved s j c b).slot i ≡ s.slot i
stays_slot s i j c b l = ap (λ t. cond t b (s.slot i)) (ne_eqb i j (λ e. omega arith))

-- what is shown of a dependence between i and j at a place
pub record Shown (k : Dependence) (p : Program) (s : Schedule) (slots : ℕ) (x : Place) (i j n : ℕ) : Type 0 where
  pub depends : Depends k p x i j
  pub broken : ¬ Holds k p s i j
  pub least : (c : ℕ) → ((b : ℕ) × (b < slots) × Holds k p (moved s j c b) i j) ↔ (n ≤ c)
  pub differs : (latency : ℕ → ℕ) → NamedLatencies k p latency i j → ¬ Same p s latency x none_withheld

module _ (p : Program) (s : Schedule) (sound : Sound p s) (i j last : ℕ) (l : i < j) (h : j < p.size)
    (a b : Placed) (ta : Tied p s i a) (tb : Tied p s j b) where
  shown_flow : (r : Register) → broken Flow (place.Register r) a b ≡ true → Shown Flow p s (last + 1) (place.Register r) i j (least_for Flow last a b)
  shown_flow r t =
      let x = place.Register r in
      let k = and_parts (linked Flow x a b) (not (holds Flow a b)) t in
      let m = and_parts (writes_at x a) (reads_at x b) k.0 in
      let late = leb-false _ _ (is_false (holds Flow a b) k.1) in
      let there : schedule.Flow p x i j = (l, h, ta.writes x ∙ m.0, tb.reads x ∙ m.1) in
      let no : ¬ FlowKept p s i j = λ f. omega (arith, late, ta.cycle, tb.cycle, ta.longest) in
      record {
        depends = ((r, refl), there);
        broken = no;
        least = λ c. (
          λ q. omega (arith, q.2, stays s i j c q.0 l, moved_to s j c q.0, ta.cycle, ta.longest),
          λ q. (0, omega arith, omega (arith, stays s i j c 0 l, moved_to s j c 0, ta.cycle, ta.longest)),
        );
        differs = (broken_always_shows_lem p s sound).flow r i j there no;
      }

  shown_anti : (r : Register) → broken Anti (place.Register r) a b ≡ true → Shown Anti p s (last + 1) (place.Register r) i j (least_for Anti last a b)
  shown_anti r t =
      let x = place.Register r in
      let k = and_parts (linked Anti x a b) (not (holds Anti a b)) t in
      let m = and_parts (reads_at x a) (writes_at x b) k.0 in
      let late = ltb-false _ _ (is_false (holds Anti a b) k.1) in
      let there : schedule.Anti p x i j = (l, h, ta.reads x ∙ m.0, tb.writes x ∙ m.1) in
      let no : ¬ AntiKept p s i j = λ f. omega (arith, late, ta.cycle, tb.cycle, tb.shortest) in
      record {
        depends = ((r, refl), there);
        broken = no;
        least = λ c. (
          λ q. omega (arith, q.2, stays s i j c q.0 l, moved_to s j c q.0, ta.cycle, tb.shortest),
          λ q. (0, omega arith, omega (arith, stays s i j c 0 l, moved_to s j c 0, ta.cycle, tb.shortest)),
        );
        differs = (broken_always_shows_lem p s sound).anti r i j there no;
      }

  shown_output : (r : Register) → broken Output (place.Register r) a b ≡ true → Shown Output p s (last + 1) (place.Register r) i j (least_for Output last a b)
  shown_output r t =
      let x = place.Register r in
      let k = and_parts (linked Output x a b) (not (holds Output a b)) t in
      let m = and_parts (writes_at x a) (writes_at x b) k.0 in
      let late = ltb-false _ _ (is_false (holds Output a b) k.1) in
      let there : schedule.Output p x i j = (l, h, ta.writes x ∙ m.0, tb.writes x ∙ m.1) in
      let no : ¬ OutputKept p s i j = λ f. omega (arith, late, ta.cycle, tb.cycle, ta.longest, tb.shortest) in
      record {
        depends = ((r, refl), there);
        broken = no;
        least = λ c. (
          λ q. omega (arith, q.2, stays s i j c q.0 l, moved_to s j c q.0, ta.cycle, ta.longest, tb.shortest),
          λ q. (0, omega arith, omega (arith, stays s i j c 0 l, moved_to s j c 0, ta.cycle, ta.longest, tb.shortest)),
        );
        differs = λ latency n. (broken_always_shows_lem p s sound).output r i j there no latency n.0 n.1;
      }

linked_uses : (wa ra wb rb : Bool) → ((wa && (wb || rb)) || (ra && wb)) ≡ true → ((wa || ra) ≡ true) × ((wb || rb) ≡ true) × ((wa || wb) ≡ true)
linked_uses true ra true rb t = (refl, refl, refl)
linked_uses true true false true t = (refl, refl, refl)
linked_uses true true false false t = (refl, t, refl)
linked_uses true false false true t = (refl, refl, refl)
linked_uses true false false false t = (refl, t, refl)
linked_uses false true true rb t = (refl, refl, refl)
linked_uses false true false rb t = (refl, absurd (clash (sym t)), t)
linked_uses false false wb rb t = (t, absurd (clash (sym t)), absurd (clash (sym t)))

not_before : (c₁ s₁ c₂ s₂ : ℕ) → (ltb c₁ c₂ || (eqb c₁ c₂ && ltb s₁ s₂)) ≡ false → (c₁ ≤ c₂) → (c₁ ≡ c₂ → s₁ < s₂) → ⊥
not_before c₁ s₁ c₂ s₂ f le lt = elim (cases_Bool (eqb c₁ c₂)) [
  | inl e ↦ (let k = lt (eqb-true c₁ c₂ e) in clash (sym (or_right (ltb c₁ c₂) (eqb c₁ c₂ && ltb s₁ s₂) (and_from _ _ e (lt-ltb s₁ s₂ k))) ∙ f))
  | inr e ↦ (let k : c₁ < c₂ = grind (arith, eq-eqb c₁ c₂) in clash (sym (or_left (ltb c₁ c₂) (eqb c₁ c₂ && ltb s₁ s₂) (lt-ltb c₁ c₂ k)) ∙ f))
]

-- the first cycle with a slot behind (c₁, s₁), where slots go up to `last`
least_behind : (c₁ s₁ last c : ℕ) → s₁ ≤ last → ((b : ℕ) × (b < last + 1) × ((c₁ ≤ c) × (c₁ ≡ c → s₁ < b))) ↔ (cond (eqb s₁ last) (c₁ + 1) c₁ ≤ c)
least_behind c₁ s₁ last c h = by (eqb s₁ last) refl
  where
    by : (t : Bool) → eqb s₁ last ≡ t → ((b : ℕ) × (b < last + 1) × ((c₁ ≤ c) × (c₁ ≡ c → s₁ < b))) ↔ (cond t (c₁ + 1) c₁ ≤ c)
    by true e =
        let k = eqb-true s₁ last e in
        (λ q. grind (arith, q.1, q.2.0, q.2.1, k), λ m. (0, omega arith, (omega arith, λ n. absurd (omega arith))))
    by false e =
        (λ q. q.2.0, λ m. (last, omega arith, (m, λ n. grind (arith, eq-eqb s₁ last))))

module _ (p : Program) (s : Schedule) (sound : Sound p s) (i j last : ℕ) (l : i < j) (h : j < p.size)
    (a b : Placed) (ta : Tied p s i a) (tb : Tied p s j b) (in-slot : a.slot ≤ last) where
  shown_memory : broken Memory place.Memory a b ≡ true → Shown Memory p s (last + 1) place.Memory i j (least_for Memory last a b)
  shown_memory t =
      let x = place.Memory in
      let k = and_parts (linked Memory x a b) (not (holds Memory a b)) t in
      let m = linked_uses (writes_at x a) (reads_at x a) (writes_at x b) (reads_at x b) k.0 in
      let late = is_false (holds Memory a b) k.1 in
      let there : schedule.Conflict p i j =
      (l, h, ap₂ ◌||◌ (ta.writes x) (ta.reads x) ∙ m.0, ap₂ ◌||◌ (tb.writes x) (tb.reads x) ∙ m.1, ap₂ ◌||◌ (ta.writes x) (tb.writes x) ∙ m.2) in
      let no : ¬ ConflictKept s i j = λ f. not_before a.cycle a.slot b.cycle b.slot late
      (omega (arith, f.0, ta.cycle, tb.cycle)) (λ e. omega (arith, f.1 (ta.cycle ∙ e ∙ sym tb.cycle), ta.slot, tb.slot)) in
      record {
        depends = (refl, there);
        broken = no;
        least = λ c. (
          λ q. (least_behind a.cycle a.slot last c in-slot).0 (
            q.0,
            q.1,
            (
              omega (arith, q.2.0, stays s i j c q.0 l, moved_to s j c q.0, ta.cycle),
              λ e. omega (arith, q.2.1 (stays s i j c q.0 l ∙ ta.cycle ∙ e ∙ sym (moved_to s j c q.0)), stays_slot s i j c q.0 l, moved_slot s j c q.0, ta.slot),
            ),
          ),
          λ q. let f = (least_behind a.cycle a.slot last c in-slot).1 q in (
            f.0,
            f.1,
            (
              omega (arith, f.2.0, stays s i j c f.0 l, moved_to s j c f.0, ta.cycle),
              λ e. omega (arith, f.2.1 (sym ta.cycle ∙ sym (stays s i j c f.0 l) ∙ e ∙ moved_to s j c f.0), stays_slot s i j c f.0 l, moved_slot s j c f.0, ta.slot),
            ),
          ),
        );
        differs = λ latency n. (broken_always_shows_lem p s sound).in_memory i j there no latency;
      }

  shown : (k : Dependence) (x : Place) → Breaks k x a b → Shown k p s (last + 1) x i j (least_for k last a b)
  shown Flow (place.Register r) t = shown_flow p s sound i j last l h a b ta tb r t.so
  shown Anti (place.Register r) t = shown_anti p s sound i j last l h a b ta tb r t.so
  shown Output (place.Register r) t = shown_output p s sound i j last l h a b ta tb r t.so
  shown Memory (place.Register r) t = clash (sym t.kind)
  shown Flow place.Memory t = clash t.kind
  shown Anti place.Memory t = clash t.kind
  shown Output place.Memory t = clash t.kind
  shown Memory place.Memory t = shown_memory t.so

-- a violation that is found among the placed operations of a program shows
pub shows : (p : Program) (s : Schedule) → Sound p s → (ps : List Placed) → Seen p s ps → (last : ℕ) → ((i : ℕ) → i < p.size → s.slot i ≤ last) →
    (v : Violation) → Found last ps v → Shows p s (last + 1) v
shows p s sound ps seen last slots v f =
    let h : v.second < p.size = omega (arith, f.within, seen.size) in
    let t = two_of p s ps seen v.first v.second f.before h in
    let d = t.other in
    let g = shown p s sound v.first v.second last f.before h (get_or ps v.first d) (get_or ps v.second d) t.first t.second
    (omega (arith, slots v.first (omega (arith, f.before)), t.first.slot)) v.dependence v.place (f.breaks d) in
    record {
      depends = g.depends;
      broken = g.broken;
      least = λ c. let e = f.least d in (λ q. omega (arith, (g.least c).0 q, e), λ q. (g.least c).1 (omega (arith, q, e)));
      differs = g.differs;
    }
