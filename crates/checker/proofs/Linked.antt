-- From placed operations to the program and its schedule: all pairs kept. Assumes nothing.
use Rattle.std.proofs.Common.{◌≡◌, ℕ, ◌<◌, ◌≤◌, Bool, true, false, not, ◌&&◌, ◌||◌, eqb, ltb, List, [], ◌∷◌, length, get_or, sym, refl, ◌∙◌, ap₂, inl, inr, arith}
use Rattle.std.proofs.lemmas.Bool.{leb-true, ltb-true, eqb-true, and_parts, and_from, or_cases, or_left}
use Rattle.operations.specs.declared.refusal.Dependence.TheVariants.{Flow, Anti, Output, Memory}
use Rattle.registers.specs.declared.register.Register.{Register}
use Rattle.registers.specs.declared.register.Place.TheVariants as place
use Rattle.histories.specs.Schedule as schedule
use Rattle.histories.specs.Schedule.{Program, Schedule, uses, FlowKept, AntiKept, OutputKept, ConflictKept, Kept}
use Rattle.checker.specs.declared.placed.Placed.{Placed}
use Rattle.checker.specs.Pairs.{reads_at, writes_at, linked, holds, PairKept, AllKept}
use Rattle.checker.specs.Seen.{Tied, Seen}

-- an element of a list that has one
pub some_of : (ps : List Placed) (j : ℕ) → j < length ps → Placed
some_of [] j h = absurd (omega arith)
some_of (p ∷ ps) j h = p

unbroken_holds : (l h : Bool) → (l && not h) ≡ false → l ≡ true → h ≡ true
unbroken_holds l true e t = refl
unbroken_holds true false e t = sym e
unbroken_holds false false e t = t

module _ (p : Program) (s : Schedule) (i j : ℕ) (a b : Placed) (ta : Tied p s i a) (tb : Tied p s j b) (kept : PairKept a b) where
  flow_kept : (r : Register) → (p.accesses (place.Register r)).writes i ≡ true → (p.accesses (place.Register r)).reads j ≡ true → FlowKept p s i j
  flow_kept r w t =
      let x = place.Register r in
      let k = unbroken_holds (linked Flow x a b) (holds Flow a b) (kept.registers r).flow (and_from (writes_at x a) (reads_at x b) (sym (ta.writes x) ∙ w) (sym (tb.reads x) ∙ t)) in
      omega (arith, leb-true _ _ k, ta.cycle, tb.cycle, ta.longest)

  anti_kept : (r : Register) → (p.accesses (place.Register r)).reads i ≡ true → (p.accesses (place.Register r)).writes j ≡ true → AntiKept p s i j
  anti_kept r t w =
      let x = place.Register r in
      let k = unbroken_holds (linked Anti x a b) (holds Anti a b) (kept.registers r).anti (and_from (reads_at x a) (writes_at x b) (sym (ta.reads x) ∙ t) (sym (tb.writes x) ∙ w)) in
      omega (arith, ltb-true _ _ k, ta.cycle, tb.cycle, tb.shortest)

  output_kept : (r : Register) → (p.accesses (place.Register r)).writes i ≡ true → (p.accesses (place.Register r)).writes j ≡ true → OutputKept p s i j
  output_kept r w v =
      let x = place.Register r in
      let k = unbroken_holds (linked Output x a b) (holds Output a b) (kept.registers r).output (and_from (writes_at x a) (writes_at x b) (sym (ta.writes x) ∙ w) (sym (tb.writes x) ∙ v)) in
      omega (arith, ltb-true _ _ k, ta.cycle, tb.cycle, ta.longest, tb.shortest)

conflict_linked : (wa ra wb rb : Bool) → (wa || ra) ≡ true → (wb || rb) ≡ true → (wa || wb) ≡ true → ((wa && (wb || rb)) || (ra && wb)) ≡ true
conflict_linked true ra wb rb u v w = or_left (wb || rb) (ra && wb) v
conflict_linked false true true rb u v w = refl
conflict_linked false true false rb u v w = w
conflict_linked false false wb rb u v w = u

before_kept : (c₁ s₁ c₂ s₂ : ℕ) → (ltb c₁ c₂ || (eqb c₁ c₂ && ltb s₁ s₂)) ≡ true → (c₁ ≤ c₂) × (c₁ ≡ c₂ → s₁ < s₂)
before_kept c₁ s₁ c₂ s₂ t = elim (or_cases (ltb c₁ c₂) (eqb c₁ c₂ && ltb s₁ s₂) t) [
  | inl h ↦ (let k = ltb-true c₁ c₂ h in (omega arith, λ e. absurd (omega arith)))
  | inr h ↦ (let k = and_parts (eqb c₁ c₂) (ltb s₁ s₂) h in
      let e = eqb-true c₁ c₂ k.0 in
      let f = ltb-true s₁ s₂ k.1 in
      (omega arith, λ _. f))
]

module _ (p : Program) (s : Schedule) (i j : ℕ) (a b : Placed) (ta : Tied p s i a) (tb : Tied p s j b) where
  conflict_of : schedule.Conflict p i j → linked Memory place.Memory a b ≡ true
  conflict_of c =
      let x = place.Memory in
      conflict_linked (writes_at x a) (reads_at x a) (writes_at x b) (reads_at x b)
      (sym (ap₂ ◌||◌ (ta.writes x) (ta.reads x)) ∙ c.2)
      (sym (ap₂ ◌||◌ (tb.writes x) (tb.reads x)) ∙ c.3)
      (sym (ap₂ ◌||◌ (ta.writes x) (tb.writes x)) ∙ c.4)

  memory_kept : PairKept a b → schedule.Conflict p i j → ConflictKept s i j
  memory_kept kept c =
      let k = unbroken_holds (linked Memory place.Memory a b) (holds Memory a b) kept.memory (conflict_of c) in
      let h = before_kept a.cycle a.slot b.cycle b.slot k in
      (omega (arith, h.0, ta.cycle, tb.cycle), λ e. omega (arith, h.1 (sym ta.cycle ∙ e ∙ tb.cycle), ta.slot, tb.slot))

-- an earlier and a later operation of the program, as they are placed
pub record Two (p : Program) (s : Schedule) (ps : List Placed) (i j : ℕ) : Type 0 where
  pub within : j < length ps
  pub other : Placed
  pub first : Tied p s i (get_or ps i other)
  pub second : Tied p s j (get_or ps j other)

pub two_of : (p : Program) (s : Schedule) (ps : List Placed) → Seen p s ps → (i j : ℕ) → i < j → j < p.size → Two p s ps i j
two_of p s ps seen i j l h =
    let w : j < length ps = omega (arith, seen.size) in
    let d : Placed = some_of ps j w in
    record { within = w; other = d; first = seen.each i d (omega arith); second = seen.each j d w }

pub kept_from : (p : Program) (s : Schedule) (ps : List Placed) → Seen p s ps → AllKept ps (length ps) → Kept p s
kept_from p s ps seen all = record {
  flow = λ r i j f. let t = two i j f.0 f.1 in flow_kept p s i j _ _ t.first t.second (pair i j f.0 t) r f.2 f.3;
  anti = λ r i j f. let t = two i j f.0 f.1 in anti_kept p s i j _ _ t.first t.second (pair i j f.0 t) r f.2 f.3;
  output = λ r i j f. let t = two i j f.0 f.1 in output_kept p s i j _ _ t.first t.second (pair i j f.0 t) r f.2 f.3;
  in_memory = λ i j f. let t = two i j f.0 f.1 in memory_kept p s i j _ _ t.first t.second (pair i j f.0 t) f;
}
  where
    two : (i j : ℕ) → i < j → j < p.size → Two p s ps i j
    two = two_of p s ps seen

    pair : (i j : ℕ) → i < j → (t : Two p s ps i j) → PairKept (get_or ps i t.other) (get_or ps j t.other)
    pair i j l t = all j t.within i t.other l
