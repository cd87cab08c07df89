-- An operation's place, with a cycle and a slot that are too large made smaller. Assumes nothing.
use Rattle.std.proofs.Common.{◌≡◌, ℕ, min, ◌≤◌, Bool, true, false, cond, ◌&&◌, ltb, List, length, Some, Ok, Err, Option, Result, sym, refl, ap, ◌∙◌, subst, arith, ltb-false, ltb-true, le-ltb, MatchResult}
use Rattle.std.proofs.lemmas.List.{length-take-le}
use Rattle.operations.specs.declared.refusal.Refusal.{Refusal}
use Rattle.operations.specs.declared.refusal.Refusal.TheVariants.{NoSuch, BeyondLimit, ClassNotTaken}
use Rattle.blocks.specs.declared.description.Slot.{Slot}
use Rattle.blocks.specs.declared.description.Slots.{Slots}
use Rattle.blocks.specs.Entries.{position_at, class_at}
use Rattle.blocks.specs.Machine.{slots_of, takes_class}
use Rattle.blocks.specs.Model.{Body, move_to, place_step}
use Rattle.blocks.specs.Steps.{Outcome, Did}
use Rattle.blocks.specs.Calls.{State, body_at, put_back, place_call}
use Rattle.lines.specs.declared.written.WrittenPosition.{WrittenPosition}
use Rattle.text.specs.Programs.{placed_at}

-- what a call did, by its answer
pub told : {X S : Type 0} (s t : S) (r : Result X Refusal) (o : Outcome X S) → Did s t r o → MatchResult r (λ x. o ≡ Ok (x, t)) (λ e. o ≡ Err e)
told s t (Ok x) (Ok p) d =
    let h = d.answered in
    let k = d.left in
    grind arith
told s t (Ok x) (Err e) d = let h = d.answered in grind arith
told s t (Err e) (Ok p) d = let h = d.answered in grind arith
told s t (Err e) (Err f) d = let h = d.answered in grind arith

slot_beyond : (ss : List Slot) (b : Body) (i c k : ℕ) → ltb k (length ss) ≡ false → place_step ss b i c k ≡ Err NoSuch
slot_beyond ss b i c k h = grind arith

cycle_beyond : (ss : List Slot) (b : Body) (i c k : ℕ) → ltb c 1024 ≡ false → place_step ss b i c k ≡ cond (ltb i (length b.entries) && ltb k (length ss)) (Err BeyondLimit) (Err NoSuch)
cycle_beyond ss b i c k h = ap (λ t. cond (ltb i (length b.entries) && ltb k (length ss)) (cond t (cond (takes_class ss k (class_at b.entries i)) (move_to b i (position_at c k)) (Err ClassNotTaken)) (Err BeyondLimit)) (Err NoSuch)) h

pub few_slots : (s : Slots) → length (slots_of s) ≤ 8
few_slots s = omega (arith, length-take-le s.count s.slots, s.few, s.whole)

by_cycle : (ss : List Slot) (b : Body) (i c k : ℕ) (t : Bool) → ltb c 1024 ≡ t → place_step ss b i (min c 1024) k ≡ place_step ss b i c k
by_cycle ss b i c k true h = let l = ltb-true c 1024 h in ap (λ d. place_step ss b i d k) (omega arith)
by_cycle ss b i c k false h = let l = ltb-false c 1024 h in cycle_beyond ss b i (min c 1024) k (le-ltb (min c 1024) 1024 (omega arith)) ∙ sym (cycle_beyond ss b i c k h)

by_slot : (ss : List Slot) (b : Body) (i c k : ℕ) (t : Bool) → length ss ≤ 8 → ltb k 8 ≡ t → place_step ss b i c (min k 8) ≡ place_step ss b i c k
by_slot ss b i c k true few h = let l = ltb-true k 8 h in ap (λ d. place_step ss b i c d) (omega arith)
by_slot ss b i c k false few h =
    let l = ltb-false k 8 h in
    slot_beyond ss b i c (min k 8) (le-ltb (min k 8) (length ss) (omega arith)) ∙ sym (slot_beyond ss b i c k (le-ltb k (length ss) (omega arith)))

pub place_same : (s : State) (n i c k : ℕ) → place_call s n i (min c 1024) (min k 8) ≡ place_call s n i c k
place_same s n i c k =
    let ss = slots_of s.description.slots in
    let b = body_at s n in
    let step = by_cycle ss b i c (min k 8) (ltb c 1024) refl ∙ by_slot ss b i c k (ltb k 8) (few_slots s.description.slots) refl in
    ap (λ o. cond (ltb n 16) (put_back s n o) (Err NoSuch)) step

pub placed_told :
    (s t : State) (n i : ℕ) (q : Option WrittenPosition) (p : WrittenPosition) (c k : ℕ) (r : Result (Unit {0}) Refusal)
    → q ≡ Some p
    → c ≡ min p.cycle 1024
    → k ≡ min p.slot 8
    → Did s t r (place_call s n i c k)
    → MatchResult r (λ _. placed_at s n i q ≡ Ok (tt, t)) (λ e. placed_at s n i q ≡ Err e)
placed_told s t n i q p c k r is c-is k-is did =
    let e = ap (λ d. place_call s n i d k) c-is ∙ ap (place_call s n i (min p.cycle 1024)) k-is ∙ place_same s n i p.cycle p.slot ∙ sym (ap (placed_at s n i) is) in
    let P : Outcome (Unit {0}) State → Type 0 = λ o. MatchResult r (λ _. o ≡ Ok (tt, t)) (λ e. o ≡ Err e) in
    subst P e (told s t r (place_call s n i c k) did)
