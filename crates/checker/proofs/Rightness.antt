-- The verdict on a block is right. Assumes nothing.
use Rattle.std.proofs.Common.{◌≡◌, ℕ, ◌+◌, ◌<◌, ◌≤◌, List, length, take, Some, None, Ok, Option, MatchOption, sym, refl, subst, arith}
use Rattle.std.proofs.lemmas.List.{get_or-take, length-take-le}
use Rattle.operations.specs.declared.refusal.Dependence.{Dependence}
use Rattle.operations.specs.declared.refusal.Dependence.TheVariants.{Flow, Anti, Output, Memory}
use Rattle.operations.specs.declared.refusal.Violation.{Violation}
use Rattle.registers.specs.declared.register.Place.{Place}
use Rattle.histories.specs.Schedule as schedule
use Rattle.histories.specs.Schedule.{Program, Schedule, Sound, AlwaysSame}
use Rattle.histories.proofs.Dependences.{kept_is_always_same_lem}
use Rattle.blocks.specs.declared.description.Description.{Description}
use Rattle.blocks.specs.declared.position.Entry.{Entry}
use Rattle.blocks.specs.Machine.{slots_of}
use Rattle.blocks.specs.Entries.{unplaced_lowest, WellPlaced}
use Rattle.checker.specs.declared.placed.Placed.{Placed}
use Rattle.checker.specs.declared.verdict.Verdict.{Verdict}
use Rattle.checker.specs.declared.verdict.Verdict.TheVariants.{Kept, Violated}
use Rattle.checker.specs.Pairs.{AllKept, Found}
use Rattle.checker.specs.Programs.{program_of, schedule_of}
use Rattle.checker.specs.Seen.{Tied, Seen, SeenTo}
use Rattle.checker.specs.Verdicts.{Depends, Holds, Shows}
use Rattle.checker.specs.Checks.{Right, JudgedWith, Judged}
use Rattle.checker.proofs.Linked.{kept_from}
use Rattle.checker.proofs.Shown.{shows}
use Rattle.checker.proofs.Soundness.{sound_of, in_machine}

-- kept dependences hold
pub kept_holds : (k : Dependence) (p : Program) (s : Schedule) (x : Place) (i j : ℕ) → schedule.Kept p s → Depends k p x i j → Holds k p s i j
kept_holds Flow p s x i j kept d = let P : Place → Type 0 = λ y. schedule.Flow p y i j in kept.flow d.0.0 i j (subst P d.0.1 d.1)
kept_holds Anti p s x i j kept d = let P : Place → Type 0 = λ y. schedule.Anti p y i j in kept.anti d.0.0 i j (subst P d.0.1 d.1)
kept_holds Output p s x i j kept d = let P : Place → Type 0 = λ y. schedule.Output p y i j in kept.output d.0.0 i j (subst P d.0.1 d.1)
kept_holds Memory p s x i j kept d = kept.in_memory i j d.1

violated_kept : {A : Type 0} (w : Violation) → Violated w ≡ Kept → A
violated_kept w e = let z : ◌≡◌ {A = ℕ} 0 1 = cc in absurd (omega arith)

module _ (d : Description) (es : List Entry) (ps : List Placed) (long : length ps ≡ 64) (well : WellPlaced (slots_of d.slots) es) (seen : SeenTo d es (length es) ps) where
  sound : Sound (program_of d es) (schedule_of es)
  sound = sound_of d es ps (omega arith) well seen

  -- the front of the list that holds operations
  module _ (n : ℕ) (whole : n ≡ length es) where
    as_seen : Seen (program_of d es) (schedule_of es) (take n ps)
    as_seen =
        let l : length (take n ps) ≡ n = length-take-le n ps (omega (arith, well.few)) in
        record {
          size = omega (arith, l);
          each = λ i o h.
              let P : Placed → Type 0 = λ a. Tied (program_of d es) (schedule_of es) i a in
              subst P (sym (get_or-take n ps i o (omega (arith, l)))) (seen.each i o (omega (arith, l)));
        }

    pub right_kept : AllKept (take n ps) (length (take n ps)) → Right d es Kept
    right_kept all = record {
      kept = (λ _. (kept_is_always_same_lem (program_of d es) (schedule_of es) sound).0 (kept_from _ _ (take n ps) as_seen all), λ _. refl);
      shows = λ w e. violated_kept w (sym e);
    }

    pub right_violated : (last : ℕ) → last + 1 ≡ length (slots_of d.slots) → (v : Violation) → Found last (take n ps) v → Right d es (Violated v)
    right_violated last slots v f =
        let in_slots : (i : ℕ) → i < length es → (schedule_of es).slot i ≤ last =
        λ i h. let k = in_machine (slots_of d.slots) es i (well.fit i) (seen.placed i h) in omega arith in
        let g : Shows (program_of d es) (schedule_of es) (last + 1) v = shows _ _ sound (take n ps) as_seen last in_slots v f in
        let P : ℕ → Type 0 = λ m. Shows (program_of d es) (schedule_of es) m v in
        let h : Shows (program_of d es) (schedule_of es) (length (slots_of d.slots)) v = subst P slots g in
        record {
          kept = (
            λ e. violated_kept v e,
            λ same. absurd (h.broken (kept_holds v.dependence _ _ v.place v.first v.second ((kept_is_always_same_lem (program_of d es) (schedule_of es) sound).1 same) h.depends)),
          );
          shows = λ w e. let Q : Violation → Type 0 = λ u. Shows (program_of d es) (schedule_of es) (length (slots_of d.slots)) u in
              let same : v ≡ w = cc in
              subst Q same h;
        }

pub judged : (d : Description) (es : List Entry) (v : Verdict) → unplaced_lowest es ≡ None → Right d es v → Judged d es (Ok v)
judged d es v e right =
    let P : Option ℕ → Type 0 = λ o. JudgedWith o d es (Ok v) in
    subst P (sym e) (v, refl, right)

-- by what was found among the operations of the block
pub judged_by : (d : Description) (es : List Entry) (ps : List Placed) → length ps ≡ 64 → WellPlaced (slots_of d.slots) es → SeenTo d es (length es) ps → unplaced_lowest es ≡ None →
    (n : ℕ) → n ≡ length es → (last : ℕ) → last + 1 ≡ length (slots_of d.slots) → (o : Option Violation) (v : Verdict) →
    MatchOption o (AllKept (take n ps) (length (take n ps))) (Found last (take n ps)) → MatchOption o (v ≡ Kept) (λ w. v ≡ Violated w) → Judged d es (Ok v)
judged_by d es ps long well seen placed n whole last slots None v kept e = judged d es v placed (subst (Right d es) (sym e) (right_kept d es ps long well seen n whole kept))
judged_by d es ps long well seen placed n whole last slots (Some w) v found e =
    judged d es v placed (subst (Right d es) (sym e) (right_violated d es ps long well seen n whole last slots w found))
