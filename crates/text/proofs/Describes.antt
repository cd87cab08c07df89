-- Lines of a program leave the machine's description as it is. Assumes nothing.
use Rattle.std.proofs.Common.{◌≡◌, ℕ, Bool, true, false, cond, ltb, List, Some, None, Ok, Err, Option, Result, refl, ◌∙◌, subst}
use Rattle.operations.specs.declared.refusal.Refusal.{Refusal}
use Rattle.operations.specs.declared.refusal.Refusal.TheVariants.{NoSuch, BeyondLimit, Unreadable}
use Rattle.blocks.specs.declared.description.Description.{Description}
use Rattle.blocks.specs.Machine.{slots_of}
use Rattle.blocks.specs.Model.{Body, add_step, place_step, exit_step}
use Rattle.blocks.specs.Steps.{Outcome}
use Rattle.blocks.specs.Calls.{State, fresh, body_at, put_back, in_block, add_call}
use Rattle.lines.specs.declared.written.WrittenPosition.{WrittenPosition}
use Rattle.lines.specs.declared.written.WrittenOperation.{WrittenOperation}
use Rattle.lines.specs.declared.written.ProgramLine as line
use Rattle.lines.specs.declared.written.ProgramLine.{ProgramLine}
use Rattle.lines.specs.Lines.{IsProgramLine}
use Rattle.lines.specs.Raw.{raw_operation, raw_exit, literals_held}
use Rattle.text.specs.declared.stage.Stage.{Stage}
use Rattle.text.specs.declared.stage.Stage.TheVariants.{Start, Open, Ended}
use Rattle.text.specs.Loads.{Programs}
use Rattle.text.specs.Programs.{Reading, start, above, slot_there, placed_at, then_placed, operation_call, at_stage, in_open, program_step}
use Rattle.text.specs.Texts.{lines_of, Taken, end, next, refused, unreadable}

abbrev Kept : {X : Type 0} → Description → Outcome X State → Type 0
Kept d (Ok p) = p.1.description ≡ d
Kept d (Err e) = Unit {0}

abbrev ReadKept : {E : Type 0} → Description → Result Reading E → Type 0
ReadKept d (Ok r) = r.state.description ≡ d
ReadKept d (Err e) = Unit {0}

cond_kept : {X : Type 0} (d : Description) (b : Bool) (o : Outcome X State) (e : Refusal) → Kept d o → Kept d (cond b o (Err e))
cond_kept d true o e h = h
cond_kept d false o e h = tt

put_kept : {X : Type 0} (s : State) (n : ℕ) (o : Outcome X Body) → Kept s.description (put_back s n o)
put_kept s n (Ok p) = refl
put_kept s n (Err e) = tt

in_kept : {X : Type 0} (s : State) (n : ℕ) (step : Body → Outcome X Body) → Kept s.description (in_block s n step)
in_kept s n step = cond_kept s.description (ltb n 16) (put_back s n (step (body_at s n))) NoSuch (put_kept s n (step (body_at s n)))

placed_kept : (s : State) (n i : ℕ) (q : Option WrittenPosition) → Kept s.description (placed_at s n i q)
placed_kept s n i None = refl
placed_kept s n i (Some p) = in_kept s n (λ b. place_step (slots_of s.description.slots) b i p.cycle p.slot)

then_kept : (d : Description) (n : ℕ) (q : Option WrittenPosition) (h : Bool) (o : Outcome ℕ State) → Kept d o → Kept d (then_placed n q h o)
then_kept d n q h (Ok x) k = cond_kept d h (placed_at x.1 n x.0 q) BeyondLimit (subst (λ e. Kept e (placed_at x.1 n x.0 q)) k (placed_kept x.1 n x.0 q))
then_kept d n q h (Err e) k = tt

operation_kept : (s : State) (n : ℕ) (q : Option WrittenPosition) (w : WrittenOperation) → Kept s.description (operation_call s n q w)
operation_kept s n q w =
    let added = add_call s n (raw_operation w) in
    let held = literals_held w.sources in
    cond_kept s.description (slot_there s q) (then_placed n q held added) NoSuch (then_kept s.description n q held added (in_kept s n (λ b. add_step b (raw_operation w))))

stage_kept : (d : Description) (g : Stage) (o : Outcome (Unit {0}) State) → Kept d o → ReadKept d (at_stage g o)
stage_kept d g (Ok x) h = h
stage_kept d g (Err e) h = tt

cond_read : (d : Description) (b : Bool) (o : Result Reading Refusal) (e : Refusal) → ReadKept d o → ReadKept d (cond b o (Err e))
cond_read d true o e h = h
cond_read d false o e h = tt

open_kept : (d : Description) (g : Stage) (f : ℕ → Result Reading Refusal) → ((b : ℕ) → ReadKept d (f b)) → ReadKept d (in_open g f)
open_kept d Start f h = tt
open_kept d (Open b) f h = h b
open_kept d (Ended b) f h = tt

step_kept : (r : Reading) (w : ProgramLine) → ReadKept r.state.description (program_step r w)
step_kept r (line.TheVariants.Block n) =
    let d = r.state.description in
    let new : Result Reading Refusal = Ok (record { state = r.state; stage = Open n }) in
    cond_read d (above r.stage n) (cond (ltb n 16) new (Err NoSuch)) Unreadable (cond_read d (ltb n 16) new NoSuch refl)
step_kept r (line.TheVariants.Operation p w) = open_kept r.state.description r.stage _ (λ b. stage_kept r.state.description (Open b) _ (operation_kept r.state b p w))
step_kept r (line.TheVariants.Exit x) = open_kept r.state.description r.stage _ (λ b. stage_kept r.state.description (Ended b) _ (in_kept r.state b (λ y. exit_step b y (raw_exit x))))

taken_kept : (d : Description) (s : Reading) (ls : List (List ℕ)) (o : Result Reading (Refusal × List ℕ)) → s.state.description ≡ d → Taken IsProgramLine program_step s ls o → ReadKept d o
taken_kept d _ _ _ h (end s) = h
taken_kept d _ _ _ h (next s l ls w t o said steps rest) =
    let k : t.state.description ≡ s.state.description = subst (λ x. ReadKept s.state.description x) steps (step_kept s w) in
    taken_kept d t ls o (k ∙ h) rest
taken_kept d _ _ _ h (refused s l ls w e said steps) = tt
taken_kept d _ _ _ h (unreadable s l ls none) = tt

-- the machine of a program that is taken in whole
pub machine_kept : (s t : Reading) (ls : List (List ℕ)) → Taken IsProgramLine program_step s ls (Ok t) → t.state.description ≡ s.state.description
machine_kept s t ls taken = taken_kept s.state.description s ls (Ok t) refl taken

-- a program is taken in from the start
pub from_start : (x : Description) (v : State) (ls : List (List ℕ)) (o : Result Reading (Refusal × List ℕ)) → v ≡ fresh x → Taken IsProgramLine program_step (record { state = v; stage = Start }) ls o → Taken IsProgramLine program_step (start x) ls o
from_start x v ls o e taken = subst (λ s. Taken IsProgramLine program_step (record { state = s; stage = Start }) ls o) e taken

pub all_taken : (x : Description) (v : State) (text : List ℕ) (t : Reading) → v ≡ fresh x → Taken IsProgramLine program_step (record { state = v; stage = Start }) (lines_of text) (Ok t) → (t.state.description ≡ x) × Programs text x t.state
all_taken x v text t e taken =
    let all = from_start x v (lines_of text) (Ok t) e taken in
    (machine_kept (start x) t (lines_of text) all, record { stage = t.stage; lines = all })
