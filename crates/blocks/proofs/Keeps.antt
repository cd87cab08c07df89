-- The steps keep what always holds of a block. Assumes nothing.
use Rattle.std.proofs.Common.{◌≡◌, ℕ, zero, suc, Bool, true, false, cond, ◌&&◌, ltb, leb, List, [], ◌∷◌, ◌++◌, map, length, get_or, set, Some, None, Ok, Err, Option, Result, sym, refl, ap, ◌∙◌, arith}
use Rattle.std.specs.Option.{option_map, option_zip}
use Rattle.std.proofs.lemmas.List.{map_push}
use Rattle.operations.specs.declared.operation.Operation.{Operation}
use Rattle.operations.specs.declared.raw.RawOperation.{RawOperation}
use Rattle.operations.specs.declared.refusal.Refusal.{Refusal}
use Rattle.operations.specs.declared.refusal.Refusal.TheVariants.{NoSuch, BlockFull, BeyondLimit, ClassNotTaken, Occupied}
use Rattle.operations.specs.Typing.{names_exist, typed_of}
use Rattle.registers.specs.Registers.{Predicate}
use Rattle.registers.specs.Names.{predicate_of}
use Rattle.blocks.specs.declared.description.Slot.{Slot}
use Rattle.blocks.specs.declared.position.Position.{Position}
use Rattle.blocks.specs.declared.position.Entry.{Entry}
use Rattle.blocks.specs.declared.exit.Exit.{Exit}
use Rattle.blocks.specs.declared.exit.Exit.TheVariants as exit
use Rattle.blocks.specs.declared.exit.RawExit.{RawExit}
use Rattle.blocks.specs.declared.exit.RawExit.TheVariants.{Halt, Next, Goto, If, Loop}
use Rattle.blocks.specs.Steps.{Outcome, after}
use Rattle.blocks.specs.Machine.{takes_class}
use Rattle.blocks.specs.Exits.{BlockNumber, block_numbered, exit_named, raw_goes_on, goes_on, exit_for}
use Rattle.blocks.specs.Entries.{position_for, position_at, slot_in, placed, occupied, class_at, fits_position, fits_slot, AllFit, put}
use Rattle.blocks.specs.Model.{Body, with_entries, with_exit, unplaced, append, add_step, move_to, place_step, lift_from, lift_step, leave_by, exit_step}

-- what always holds of block n
abbrev pub Good : List Slot → ℕ → Body → Type 0
Good slots n b = AllFit slots b.entries × (n ≡ 15 → goes_on b.exit ≡ false)

-- what holds of a block before a step, and of what the step can make of it, holds after it
module _ (P : Body → Type 0) (b : Body) (before : P b) where
  kept_cond : {X : Type 0} (t : Bool) (o : Outcome X Body) (e : Refusal) → (t ≡ true → P (after b o)) → P (after b (cond t o (Err e)))
  kept_cond true o e h = h refl
  kept_cond false o e h = before

  append_kept : (t : Result Operation Refusal) → ((x : Operation) → P (with_entries b (b.entries ++ unplaced x ∷ []))) → P (after b (append b t))
  append_kept (Ok x) h = h x
  append_kept (Err e) h = before

  add_kept : (q : RawOperation) → ((x : Operation) → P (with_entries b (b.entries ++ unplaced x ∷ []))) → P (after b (add_step b q))
  add_kept q h =
      kept_cond (names_exist q) (cond (ltb (length b.entries) 64) (append b (typed_of q)) (Err BlockFull)) NoSuch
      (λ _. kept_cond (ltb (length b.entries) 64) (append b (typed_of q)) BlockFull (λ _. append_kept (typed_of q) h))

  move_kept : (i : ℕ) (o : Option Position) → ((p : Position) → o ≡ Some p → P (with_entries b (put b.entries i (Some p)))) → P (after b (move_to b i o))
  move_kept i None h = before
  move_kept i (Some p) h =
      elim (occupied b.entries i p) as (λ t. P (after {X = Unit {0}} b (cond t (Err Occupied) (Ok (tt, with_entries b (put b.entries i (Some p))))))) [ true ↦ before | false ↦ h p refl ]

  place_kept : (slots : List Slot) (i c s : ℕ) → ((p : Position) → position_at c s ≡ Some p → takes_class slots s (class_at b.entries i) ≡ true → P (with_entries b (put b.entries i (Some p)))) → P (after b (place_step slots b i c s))
  place_kept slots i c s h =
      let classed : Outcome (Unit {0}) Body = cond (takes_class slots s (class_at b.entries i)) (move_to b i (position_at c s)) (Err ClassNotTaken) in
      kept_cond (ltb i (length b.entries) && ltb s (length slots)) (cond (ltb c 1024) classed (Err BeyondLimit)) NoSuch
      (λ _. kept_cond (ltb c 1024) classed BeyondLimit
      (λ _. kept_cond (takes_class slots s (class_at b.entries i)) (move_to b i (position_at c s)) ClassNotTaken
      (λ t. move_kept i (position_at c s) (λ p e. h p e t))))

  lift_kept : (i : ℕ) → P (with_entries b (put b.entries i None)) → P (after b (lift_step b i))
  lift_kept i h = kept_cond (ltb i (length b.entries)) (lift_from b i (placed b.entries i)) NoSuch (λ _. by (placed b.entries i))
    where
      by : (o : Option Position) → P (after b (lift_from b i o))
      by None = before
      by (Some p) = h

  exit_kept : (n : ℕ) (q : RawExit) → ((x : Exit) → exit_for n q ≡ Some x → P (with_exit b x)) → P (after b (exit_step n b q))
  exit_kept n q h = by (exit_for n q) refl
    where
      by : (o : Option Exit) → exit_for n q ≡ o → P (after b (leave_by b o))
      by None e = before
      by (Some x) e = h x e

abbrev AllTrue : List Bool → Type 0
AllTrue bs = (i : ℕ) → get_or bs i true ≡ true

true_set : (bs : List Bool) (k : ℕ) (b : Bool) → b ≡ true → AllTrue bs → AllTrue (set bs k b)
true_set [] k b e a i = refl
true_set (x ∷ xs) zero b e a zero = e
true_set (x ∷ xs) zero b e a (suc i) = a (suc i)
true_set (x ∷ xs) (suc k) b e a zero = a zero
true_set (x ∷ xs) (suc k) b e a (suc i) = true_set xs k b e (λ n. a (suc n)) i

true_push : (bs : List Bool) (b : Bool) → b ≡ true → AllTrue bs → AllTrue (bs ++ b ∷ [])
true_push [] b e a zero = e
true_push [] b e a (suc i) = refl
true_push (x ∷ xs) b e a zero = a zero
true_push (x ∷ xs) b e a (suc i) = true_push xs b e (λ n. a (suc n)) i

fits_put : (slots : List Slot) (es : List Entry) (i : ℕ) (p : Option Position) → map (fits_slot slots) (put es i p) ≡ set (map (fits_slot slots) es) i (fits_position slots (class_at es i) p)
fits_put slots [] i p = refl
fits_put slots (e ∷ es) zero p = refl
fits_put slots (e ∷ es) (suc i) p = ap (λ l. fits_slot slots e ∷ l) (fits_put slots es i p)

fit_put : (slots : List Slot) (es : List Entry) (i : ℕ) (p : Option Position) → fits_position slots (class_at es i) p ≡ true → AllFit slots es → AllFit slots (put es i p)
fit_put slots es i p t a j = ap (λ l. get_or l j true) (fits_put slots es i p) ∙ true_set (map (fits_slot slots) es) i _ t a j

fit_push : (slots : List Slot) (es : List Entry) (x : Operation) → AllFit slots es → AllFit slots (es ++ unplaced x ∷ [])
fit_push slots es x a j = ap (λ l. get_or l j true) (map_push (fits_slot slots) es (unplaced x)) ∙ true_push (map (fits_slot slots) es) true refl a j

-- a position stands in the slot that was asked for
slot_for : (c s : ℕ) (p : Position) → position_at c s ≡ Some p → p.slot ≡ s
slot_for c s p e = by (ltb c 1024 && ltb s 8) refl e
  where
    by : (b : Bool) (h : (ltb c 1024 && ltb s 8) ≡ b) → position_for c s b h ≡ Some p → p.slot ≡ s
    by true h e = ap slot_in (sym e)
    by false h e = let z : ◌≡◌ {A = ℕ} 0 1 = cc in absurd (omega arith)

-- a typed exit goes on where the raw one does
named_goes : (q : RawExit) (x : Exit) → exit_named q ≡ Some x → goes_on x ≡ raw_goes_on q
named_goes Halt x e = let z : x ≡ exit.Halt = cc in ap goes_on z
named_goes Next x e = let z : x ≡ exit.Next = cc in ap goes_on z
named_goes (Goto t) x e = by (block_numbered t) e
  where
    by : (o : Option BlockNumber) → option_map exit.Goto o ≡ Some x → goes_on x ≡ false
    by None e = let z : ◌≡◌ {A = ℕ} 0 1 = cc in absurd (omega arith)
    by (Some m) e = let z : x ≡ exit.Goto m = cc in ap goes_on z
named_goes (If r t) x e = by (option_zip (predicate_of r) (block_numbered t)) e
  where
    by : (o : Option (Predicate × BlockNumber)) → option_map (λ y. exit.If y.0 y.1) o ≡ Some x → goes_on x ≡ true
    by None e = let z : ◌≡◌ {A = ℕ} 0 1 = cc in absurd (omega arith)
    by (Some m) e = let z : x ≡ exit.If m.0 m.1 = cc in ap goes_on z
named_goes (Loop t) x e = by (block_numbered t) e
  where
    by : (o : Option BlockNumber) → option_map exit.Loop o ≡ Some x → goes_on x ≡ true
    by None e = let z : ◌≡◌ {A = ℕ} 0 1 = cc in absurd (omega arith)
    by (Some m) e = let z : x ≡ exit.Loop m = cc in ap goes_on z

last_ends : (n : ℕ) (q : RawExit) (x : Exit) → exit_for n q ≡ Some x → n ≡ 15 → goes_on x ≡ false
last_ends n q x e h = by (raw_goes_on q) refl (ap (λ m. cond (leb 15 m && raw_goes_on q) None (exit_named q)) (sym h) ∙ e)
  where
    by : (b : Bool) → raw_goes_on q ≡ b → cond (raw_goes_on q) None (exit_named q) ≡ Some x → goes_on x ≡ false
    by true g k = let z : ◌≡◌ {A = Option Exit} None (Some x) = rw g at k in let y : ◌≡◌ {A = ℕ} 0 1 = cc in absurd (omega arith)
    by false g k = let z : exit_named q ≡ Some x = rw g at k in named_goes q x z ∙ g

module _ (slots : List Slot) (n : ℕ) (b : Body) (g : Good slots n b) where
  pub add_keeps : (q : RawOperation) → Good slots n (after b (add_step b q))
  add_keeps q = add_kept (Good slots n) b g q (λ x. (fit_push slots b.entries x g.0, g.1))

  pub place_keeps : (i c s : ℕ) → Good slots n (after b (place_step slots b i c s))
  place_keeps i c s =
      place_kept (Good slots n) b g slots i c s
      (λ p e t. (fit_put slots b.entries i (Some p) (ap (λ k. takes_class slots k (class_at b.entries i)) (slot_for c s p e) ∙ t) g.0, g.1))

  pub lift_keeps : (i : ℕ) → Good slots n (after b (lift_step b i))
  lift_keeps i = lift_kept (Good slots n) b g i (fit_put slots b.entries i None refl g.0, g.1)

  pub exit_keeps : (q : RawExit) → Good slots n (after b (exit_step n b q))
  exit_keeps q = exit_kept (Good slots n) b g n q (λ x e. (g.0, last_ends n q x e))
