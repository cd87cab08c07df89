-- The operations of a block, one more seen. Assumes nothing.
use Rattle.std.proofs.Common.{◌≡◌, ℕ, zero, suc, ◌+◌, ◌<◌, true, false, cond, List, [], ◌∷◌, map, length, get_or, set, is_some, Some, None, Err, Result, MatchResult, sym, refl, ap, ◌∙◌, subst, add-zero, arith, below_more}
use Rattle.std.proofs.lemmas.List.{get_or-map, get_or-set_same, get_or-set_other}
use Rattle.operations.specs.declared.refusal.Refusal.{Refusal}
use Rattle.operations.specs.declared.refusal.Refusal.TheVariants.{Unplaced}
use Rattle.operations.specs.Access.{among, read_list, write_list, reads, writes}
use Rattle.blocks.specs.declared.description.Description.{Description}
use Rattle.blocks.specs.declared.position.Entry.{Entry}
use Rattle.blocks.specs.Machine.{bounds_of}
use Rattle.blocks.specs.Entries.{position_of, placed, cycle_in, slot_in, unplaced_from, unplaced_lowest}
use Rattle.checker.specs.declared.placed.Placed.{Placed}
use Rattle.checker.specs.Programs.{shortest_in, longest_in, program_of, schedule_of}
use Rattle.checker.specs.Seen.{Tied, Sees, SeenTo}

-- what is seen of entry i is operation i of the program
pub tied : (d : Description) (es : List Entry) (i : ℕ) (e : Entry) (a : Placed) → i < length es → e ≡ get_or es i e → Sees d e a → Tied (program_of d es) (schedule_of es) i a
tied d es i e a h read sees = record {
  writes = λ x. at (λ f. writes x f.operation) false ∙ ap (λ w. among x (write_list w)) (sym sees.writes);
  reads = λ x. at (λ f. reads x f.operation) false ∙ ap (λ r. among x (read_list r)) (sym sees.reads);
  shortest = at (λ f. shortest_in (bounds_of d f.operation)) 1 ∙ sym sees.shortest;
  longest = at (λ f. longest_in (bounds_of d f.operation)) 1 ∙ sym sees.longest;
  cycle = ap cycle_in (at position_of None) ∙ sym sees.cycle;
  slot = ap slot_in (at position_of None) ∙ sym sees.slot;
}
  where
    at : {Y : Type 0} (f : Entry → Y) (y : Y) → get_or (map f es) i y ≡ f e
    at f y = get_or-map f es i e y h ∙ ap f (sym read)

pub placed_here : (es : List Entry) (i : ℕ) (e : Entry) → i < length es → e ≡ get_or es i e → placed es i ≡ e.position
placed_here es i e h read = get_or-map position_of es i e None h ∙ ap position_of (sym read)

pub seen_more : (d : Description) (es : List Entry) (i : ℕ) (ps : List Placed) (e : Entry) (a : Placed) → i < length es → i < length ps → e ≡ get_or es i e → Sees d e a →
    SeenTo d es i ps → SeenTo d es (i + 1) (set ps i a)
seen_more d es i ps e a h k read sees seen = record {
  placed = below_more _ i seen.placed (ap is_some (placed_here es i e h read) ∙ sees.placed);
  each = λ m o l. below_more (λ n. Tied (program_of d es) (schedule_of es) n (get_or (set ps i a) n o)) i
      (λ n g. subst (P n) (sym (get_or-set_other ps i n a o (λ q. omega arith))) (seen.each n o g))
      (subst (P i) (sym (get_or-set_same ps i a o k)) (tied d es i e a h read sees)) m l;
}
  where
    P : ℕ → Placed → Type 0
    P n b = Tied (program_of d es) (schedule_of es) n b

-- the first that is not placed is the lowest
lowest_from : (k : ℕ) (es : List Entry) (i : ℕ) → i < length es → ((m : ℕ) → m < i → is_some (placed es m) ≡ true) → placed es i ≡ None → unplaced_from k es ≡ Some (k + i)
lowest_from k [] i h all here = absurd (omega arith)
lowest_from k (e ∷ es) zero h all here = ap (λ o. cond (is_some o) (unplaced_from (k + 1) es) (Some k)) here ∙ ap Some (sym (add-zero k))
lowest_from k (e ∷ es) (suc i) h all here =
    ap (λ t. cond t (unplaced_from (k + 1) es) (Some k)) (all 0 (omega arith))
    ∙ lowest_from (k + 1) es i (omega arith) (λ m l. all (suc m) (omega arith)) here
    ∙ ap Some (omega arith)

pub lowest_is : (es : List Entry) (i : ℕ) → i < length es → ((m : ℕ) → m < i → is_some (placed es m) ≡ true) → placed es i ≡ None → unplaced_lowest es ≡ Some i
lowest_is es i h all here = lowest_from 0 es i h all here ∙ ap Some (omega arith)

none_from : (k : ℕ) (es : List Entry) → ((m : ℕ) → m < length es → is_some (placed es m) ≡ true) → unplaced_from k es ≡ None
none_from k [] all = refl
none_from k (e ∷ es) all =
    ap (λ t. cond t (unplaced_from (k + 1) es) (Some k)) (all 0 (omega arith)) ∙ none_from (k + 1) es (λ m l. all (suc m) (omega arith))

pub none_unplaced : (es : List Entry) → ((m : ℕ) → m < length es → is_some (placed es m) ≡ true) → unplaced_lowest es ≡ None
none_unplaced es all = none_from 0 es all

-- the refusal that names it
pub refused_unplaced : {T : Type 0} (P : T → Type 0) (es : List Entry) (r : Result T Refusal) (i : ℕ) → r ≡ Err (Unplaced i) → unplaced_lowest es ≡ Some i → MatchResult r P (λ e. (m : ℕ) × (e ≡ Unplaced m) × (unplaced_lowest es ≡ Some m))
refused_unplaced P es r i e low = subst (λ r. MatchResult r P (λ e. (m : ℕ) × (e ≡ Unplaced m) × (unplaced_lowest es ≡ Some m))) (sym e) (i, refl, low)
