-- Tests that tell whether the schedule of a block is kept, and whether a violation is there. Assumes nothing.
use Rattle.std.proofs.Common.{◌≡◌, ℕ, zero, suc, ◌+◌, ◌<◌, ◌≤◌, Bool, true, false, not, ◌&&◌, ◌||◌, eqb, ltb, leb, List, [], ◌∷◌, map, length, get_or, is_some, Some, None, Ok, Err, Option, Result, sym, refl, ap, ◌∙◌, subst, ap₂, arith, lit<, lit≤}
use lib.ListN.{length-map}
use Rattle.std.proofs.lemmas.List.{get_or-map}
use Rattle.std.proofs.lemmas.Bool.{false≢true, not-true, leb-true, ltb-true, eqb-true, and_parts, or_parts}
use Rattle.registers.specs.declared.register.Place.{Place}
use Rattle.registers.specs.declared.register.Place.TheVariants as place
use Rattle.operations.specs.declared.refusal.Dependence.TheVariants.{Flow, Anti, Output, Memory}
use Rattle.operations.specs.declared.refusal.Refusal.{Refusal}
use Rattle.operations.specs.declared.refusal.Violation.{Violation}
use Rattle.operations.specs.Access.{reads_of, writes_of}
use Rattle.histories.specs.Schedule.{Sound, AlwaysSame}
use Rattle.histories.proofs.Dependences.{kept_is_always_same_lem}
use Rattle.blocks.specs.declared.description.Bounds.{Bounds}
use Rattle.blocks.specs.declared.description.Description.{Description}
use Rattle.blocks.specs.declared.description.Slot.{Slot}
use Rattle.blocks.specs.declared.position.Entry.{Entry}
use Rattle.blocks.specs.declared.position.Position.{Position}
use Rattle.blocks.specs.Machine.{bounds_of, slots_of}
use Rattle.blocks.specs.Entries.{position_of, placed, cycle_in, slot_in, clash, fits_slot, WellPlaced}
use Rattle.checker.specs.declared.placed.Placed.{Placed}
use Rattle.checker.specs.Programs.{shortest_in, longest_in, program_of, schedule_of}
use Rattle.checker.specs.Pairs.{broken, least_for, of_registers, is_register, Breaks, PairKept, PartKept, parts_of, AllKept, Found}
use Rattle.checker.specs.Seen.{Tied, Seen}
use Rattle.checker.specs.Verdicts.{Shows}
use Rattle.checker.proofs.Rightness.{kept_holds}
use Rattle.checker.proofs.Linked.{kept_from}
use Rattle.checker.proofs.Parts.{part_kept, pair_kept}
use Rattle.checker.proofs.Shown.{shows}
use Rattle.checker.proofs.Sight.{tied}
use Rattle.checker.proofs.Soundness.{sound_of, in_machine}
use Rattle.worked_examples.specs.Schedules.{machine, Line, block_of, Keeps, Violates}

-- lists: all pass a test
abbrev every : {X : Type 0} → (X → Bool) → List X → Bool
every f [] = true
every f (x ∷ xs) = f x && every f xs

every_at : {X : Type 0} (f : X → Bool) (xs : List X) (i : ℕ) (d : X) → i < length xs → every f xs ≡ true → f (get_or xs i d) ≡ true
every_at f [] i d h t = absurd (omega arith)
every_at f (x ∷ xs) zero d h t = (and_parts (f x) (every f xs) t).0
every_at f (x ∷ xs) (suc i) d h t = every_at f xs i d (omega arith) (and_parts (f x) (every f xs) t).1

every_or : {X : Type 0} (f : X → Bool) (xs : List X) (i : ℕ) (d : X) → f d ≡ true → every f xs ≡ true → f (get_or xs i d) ≡ true
every_or f [] i d e t = e
every_or f (x ∷ xs) zero d e t = (and_parts (f x) (every f xs) t).0
every_or f (x ∷ xs) (suc i) d e t = every_or f xs i d e (and_parts (f x) (every f xs) t).1

every_map : {X : Type 0} (f : X → Bool) (xs : List X) (i : ℕ) → every f xs ≡ true → get_or (map f xs) i true ≡ true
every_map f [] i t = refl
every_map f (x ∷ xs) zero t = (and_parts (f x) (every f xs) t).0
every_map f (x ∷ xs) (suc i) t = every_map f xs i (and_parts (f x) (every f xs) t).1

-- pairs of placed operations: no dependence is broken
abbrev part_test : Placed → Placed → Option Place → Bool
part_test a b None = true
part_test a b (Some place.Memory) = true
part_test a b (Some (place.Register x)) = not (broken Flow (place.Register x) a b) && (not (broken Anti (place.Register x) a b) && not (broken Output (place.Register x) a b))

abbrev pair_test : Placed → Placed → Bool
pair_test a b = every (part_test a b) (parts_of a) && not (broken Memory place.Memory a b)

abbrev pairs_test : List Placed → Bool
pairs_test [] = true
pairs_test (a ∷ ps) = every (pair_test a) ps && pairs_test ps

part_sound : (a b : Placed) (o : Option Place) → part_test a b o ≡ true → PartKept o a b
part_sound a b None t x e = absurd (false≢true e)
part_sound a b (Some place.Memory) t x e = absurd (false≢true e)
part_sound a b (Some (place.Register y)) t x e =
    let p = and_parts (not (broken Flow (place.Register y) a b)) _ t in
    let q = and_parts (not (broken Anti (place.Register y) a b)) _ p.1 in
    part_kept (Some (place.Register y)) y a b refl (record { flow = not-true _ p.0; anti = not-true _ q.0; output = not-true _ q.1 }) x e

pair_sound : (a b : Placed) → pair_test a b ≡ true → PairKept a b
pair_sound a b t =
    let p = and_parts (every (part_test a b) (parts_of a)) _ t in
    pair_kept a b (λ m d h. part_sound a b (get_or (parts_of a) m d) (every_at (part_test a b) (parts_of a) m d h p.0)) (not-true _ p.1)

pairs_sound : (ps : List Placed) → pairs_test ps ≡ true → AllKept ps (length ps)
pairs_sound [] t j h m d l = absurd (omega arith)
pairs_sound (a ∷ ps) t zero h m d l = absurd (omega arith)
pairs_sound (a ∷ ps) t (suc j) h zero d l = pair_sound a _ (every_at (pair_test a) ps j d (omega arith) (and_parts (every (pair_test a) ps) _ t).0)
pairs_sound (a ∷ ps) t (suc j) h (suc m) d l = pairs_sound ps (and_parts (every (pair_test a) ps) _ t).1 j (omega arith) m d (omega arith)

-- no two positions are one
abbrev apart_test : List (Option Position) → Bool
apart_test [] = true
apart_test (o ∷ os) = every (λ q. not (clash o q || clash q o)) os && apart_test os

no_clash : (o : Option Position) → not (clash o None || clash None o) ≡ true
no_clash None = refl
no_clash (Some p) = refl

apart_from : (os : List (Option Position)) → apart_test os ≡ true → (i j : ℕ) → clash (get_or os i None) (get_or os j None) ≡ true → i ≡ j
apart_from [] t i j c = absurd (false≢true c)
apart_from (o ∷ os) t zero zero c = refl
apart_from (o ∷ os) t zero (suc j) c =
    let k = or_parts (clash o (get_or os j None)) _ (not-true _ (every_or _ os j None (no_clash o) (and_parts (every (λ q. not (clash o q || clash q o)) os) _ t).0)) in
    absurd (false≢true (sym k.0 ∙ c))
apart_from (o ∷ os) t (suc i) zero c =
    let k = or_parts (clash o (get_or os i None)) _ (not-true _ (every_or _ os i None (no_clash o) (and_parts (every (λ q. not (clash o q || clash q o)) os) _ t).0)) in
    absurd (false≢true (sym k.1 ∙ c))
apart_from (o ∷ os) t (suc i) (suc j) c = ap suc (apart_from os (and_parts (every (λ q. not (clash o q || clash q o)) os) _ t).1 i j c)

-- a block, with some operations, all placed, each where it may stand
abbrev well_test : List Slot → List Entry → Bool
well_test slots es = (ltb 0 (length es) && leb (length es) 64) && (every (λ e. is_some e.position) es && (apart_test (map position_of es) && every (fits_slot slots) es))

-- what is seen of an entry; one that is not placed is taken to be at the start
pub early : (o : Option Position) → cycle_in o < 1024
early None = lit< tt
early (Some p) = p.early

pub quick : (o : Option Bounds) → longest_in o ≤ 31
quick None = lit≤ tt
quick (Some b) = b.few

pub in_order : (o : Option Bounds) → shortest_in o ≤ longest_in o
in_order None = lit≤ tt
in_order (Some b) = b.ordered

pub takes_time : (o : Option Bounds) → 1 ≤ shortest_in o
takes_time None = lit≤ tt
takes_time (Some b) = b.positive

abbrev see : Description → Entry → Placed
see d e = record {
  reads = reads_of e.operation;
  writes = writes_of e.operation;
  cycle = cycle_in e.position;
  slot = slot_in e.position;
  shortest = shortest_in (bounds_of d e.operation);
  longest = longest_in (bounds_of d e.operation);
  early = early e.position;
  quick = quick (bounds_of d e.operation);
  ordered = in_order (bounds_of d e.operation);
  takes_time = takes_time (bounds_of d e.operation);
}

-- a violation that is there
abbrev alike : Bool → Bool → Bool
alike true b = b
alike false b = not b

alike_same : (a b : Bool) → alike a b ≡ true → a ≡ b
alike_same true b t = sym t
alike_same false b t = sym (not-true b t)

abbrev between_test : ℕ → Violation → Option Placed → Option Placed → Bool
between_test last v None b = false
between_test last v (Some a) None = false
between_test last v (Some a) (Some b) =
    alike (of_registers v.dependence) (is_register v.place)
    && (broken v.dependence v.place a b && eqb v.least (least_for v.dependence last a b))

abbrev some_at : List Placed → ℕ → Option Placed
some_at ps i = get_or (map Some ps) i None

abbrev found_test : ℕ → List Placed → Violation → Bool
found_test last ps v = (ltb v.first v.second && ltb v.second (length ps)) && between_test last v (some_at ps v.first) (some_at ps v.second)

between_sound : (last : ℕ) (v : Violation) (a b : Placed) → between_test last v (Some a) (Some b) ≡ true →
    Breaks v.dependence v.place a b × (v.least ≡ least_for v.dependence last a b)
between_sound last v a b t =
    let p = and_parts (alike (of_registers v.dependence) (is_register v.place)) _ t in
    let q = and_parts (broken v.dependence v.place a b) _ p.1 in
    (record { kind = alike_same _ _ p.0; so = q.0 }, eqb-true _ _ q.1)

found_sound : (last : ℕ) (ps : List Placed) (v : Violation) → found_test last ps v ≡ true → Found last ps v
found_sound last ps v t =
    let h = and_parts (ltb v.first v.second && ltb v.second (length ps)) _ t in
    let k = and_parts (ltb v.first v.second) _ h.0 in
    let before : v.first < v.second = ltb-true _ _ k.0 in
    let within : v.second < length ps = ltb-true _ _ k.1 in
    let at : (d : Placed) → between_test last v (Some (get_or ps v.first d)) (Some (get_or ps v.second d)) ≡ true =
    λ d. sym (ap₂ (between_test last v) (get_or-map Some ps v.first d None (omega arith)) (get_or-map Some ps v.second d None within)) ∙ h.1 in
    record {
      before = before;
      within = within;
      breaks = λ d. (between_sound last v _ _ (at d)).0;
      least = λ d. (between_sound last v _ _ (at d)).1;
    }

module _ (d : Description) (es : List Entry) (well : well_test (slots_of d.slots) es ≡ true) where
  parts : (ltb 0 (length es) ≡ true) × (leb (length es) 64 ≡ true) × (every (λ e. is_some e.position) es ≡ true) × (apart_test (map position_of es) ≡ true) × (every (fits_slot (slots_of d.slots)) es ≡ true)
  parts =
      let p = and_parts (ltb 0 (length es) && leb (length es) 64) _ well in
      let q = and_parts (ltb 0 (length es)) _ p.0 in
      let r = and_parts (every (λ e. is_some e.position) es) _ p.1 in
      let s = and_parts (apart_test (map position_of es)) _ r.1 in
      (q.0, q.1, r.0, s.0, s.1)

  long : length (map (see d) es) ≡ length es
  long = length-map es (see d)

  well_placed : WellPlaced (slots_of d.slots) es
  well_placed = record {
    few = leb-true _ _ parts.1;
    apart = apart_from (map position_of es) parts.3;
    fit = λ i. every_map (fits_slot (slots_of d.slots)) es i parts.4;
  }

  -- entry i, as any default gives it
  entry_at : (i : ℕ) → i < length es → (e : Entry) × (e ≡ get_or es i e)
  entry_at i h = at es i h
    where
      at : (xs : List Entry) (i : ℕ) → i < length xs → (e : Entry) × (e ≡ get_or xs i e)
      at [] i h = absurd (omega arith)
      at (x ∷ xs) zero h = (x, refl)
      at (x ∷ xs) (suc i) h = at xs i (omega arith)

  here : (i : ℕ) → i < length es → is_some (placed es i) ≡ true
  here i h = let e = entry_at i h in
      let f = every_at (λ x. is_some x.position) es i e.0 h parts.2 in
      ap is_some (get_or-map position_of es i e.0 None h) ∙ f

  tied_at : (i : ℕ) (o : Placed) → i < length es → Tied (program_of d es) (schedule_of es) i (get_or (map (see d) es) i o)
  tied_at i o h =
      let e = entry_at i h in
      let T : Placed → Type 0 = λ a. Tied (program_of d es) (schedule_of es) i a in
      let is : see d e.0 ≡ get_or (map (see d) es) i o = ap (see d) e.1 ∙ sym (get_or-map (see d) es i e.0 o h) in
      let f : is_some e.0.position ≡ true = ap (λ x. is_some x.position) e.1 ∙ every_at (λ x. is_some x.position) es i e.0 h parts.2 in
      subst T is (tied d es i e.0 (see d e.0) h e.1 (record { placed = f; reads = refl; writes = refl; shortest = refl; longest = refl; cycle = refl; slot = refl }))

  seen : Seen (program_of d es) (schedule_of es) (map (see d) es)
  seen = record { size = sym long; each = λ i o h. tied_at i o (omega (arith, long)) }

  sound : Sound (program_of d es) (schedule_of es)
  sound = sound_of d es (map (see d) es) (omega (arith, long, ltb-true _ _ parts.0)) well_placed (record { placed = here; each = tied_at })

  kept : pairs_test (map (see d) es) ≡ true → AlwaysSame (program_of d es) (schedule_of es)
  kept t = (kept_is_always_same_lem _ _ sound).0 (kept_from _ _ (map (see d) es) seen (pairs_sound (map (see d) es) t))

  violated : (last : ℕ) → last + 1 ≡ length (slots_of d.slots) → (v : Violation) → found_test last (map (see d) es) v ≡ true →
      Shows (program_of d es) (schedule_of es) (last + 1) v × ¬ AlwaysSame (program_of d es) (schedule_of es)
  violated last slots v t =
      let in_slots : (i : ℕ) → i < length es → (schedule_of es).slot i ≤ last =
      λ i h. let k = in_machine (slots_of d.slots) es i (well_placed.fit i) (here i h) in omega arith in
      let g : Shows (program_of d es) (schedule_of es) (last + 1) v = shows _ _ sound (map (see d) es) seen last in_slots v (found_sound last (map (see d) es) v t) in
      (g, λ same. g.broken (kept_holds v.dependence _ _ v.place v.first v.second ((kept_is_always_same_lem _ _ sound).1 same) g.depends))

-- the rows of the table
abbrev kept_test : Result (List Entry) Refusal → Bool
kept_test (Ok es) = well_test (slots_of machine.slots) es && pairs_test (map (see machine) es)
kept_test (Err e) = false

pub keeps : (xs : List Line) → kept_test (block_of xs) ≡ true → Keeps xs
keeps xs t = by (block_of xs) refl t
  where
    by : (r : Result (List Entry) Refusal) → block_of xs ≡ r → kept_test r ≡ true → Keeps xs
    by (Ok es) e t = let p = and_parts (well_test (slots_of machine.slots) es) _ t in record { entries = es; taken = e; same = kept machine es p.0 p.1 }
    by (Err f) e t = absurd (false≢true t)

abbrev violated_test : Violation → Result (List Entry) Refusal → Bool
violated_test v (Ok es) = well_test (slots_of machine.slots) es && found_test 1 (map (see machine) es) v
violated_test v (Err e) = false

pub violates : (xs : List Line) (v : Violation) → violated_test v (block_of xs) ≡ true → Violates xs v
violates xs v t = by (block_of xs) refl t
  where
    by : (r : Result (List Entry) Refusal) → block_of xs ≡ r → violated_test v r ≡ true → Violates xs v
    by (Ok es) e t = let p = and_parts (well_test (slots_of machine.slots) es) _ t in
        let q = violated machine es p.0 1 refl v p.1 in
        record { entries = es; taken = e; shows = q.0; not_same = q.1 }
    by (Err f) e t = absurd (false≢true t)
