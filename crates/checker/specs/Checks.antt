-- What check answers. Assumes nothing.
use Rattle.std.specs.Prelude.{◌≡◌, ℕ, ◌↔◌, List, length, Some, None, Ok, Err, Option, Result}
use Rattle.operations.specs.declared.refusal.Refusal.{Refusal}
use Rattle.operations.specs.declared.refusal.Refusal.TheVariants.{NoSuch, Unplaced}
use Rattle.operations.specs.declared.refusal.Violation.{Violation}
use Rattle.histories.specs.Schedule.{AlwaysSame}
use Rattle.blocks.specs.declared.description.Description.{Description}
use Rattle.blocks.specs.declared.position.Entry.{Entry}
use Rattle.blocks.specs.Calls.{State, block_at}
use Rattle.blocks.specs.Entries.{unplaced_lowest}
use Rattle.blocks.specs.Machine.{slots_of}
use Rattle.blocks.specs.Model.{Body}
use Rattle.checker.specs.declared.verdict.Verdict.{Verdict}
use Rattle.checker.specs.declared.verdict.Verdict.TheVariants.{Kept, Violated}
use Rattle.checker.specs.Programs.{program_of, schedule_of}
use Rattle.checker.specs.Verdicts.{Shows}

-- a verdict on a fully placed block
pub record Right (d : Description) (es : List Entry) (v : Verdict) : Type 0 where
  -- kept if and only if at every timing and every choice of withheld writes every place has its history in written order
  pub kept : (v ≡ Kept) ↔ AlwaysSame (program_of d es) (schedule_of es)
  -- a violation is there, and shows
  pub shows : (w : Violation) → v ≡ Violated w → Shows (program_of d es) (schedule_of es) (length (slots_of d.slots)) w

-- with the lowest operation that is not placed, if there is one
abbrev pub JudgedWith : Option ℕ → Description → List Entry → Result Verdict Refusal → Type 0
JudgedWith (Some i) d es r = r ≡ Err (Unplaced i)
JudgedWith None d es r = (v : Verdict) × (r ≡ Ok v) × Right d es v

abbrev pub Judged : Description → List Entry → Result Verdict Refusal → Type 0
Judged d es r = JudgedWith (unplaced_lowest es) d es r

abbrev pub CheckedIn : Option Body → Description → Result Verdict Refusal → Type 0
CheckedIn None d r = r ≡ Err NoSuch
CheckedIn (Some b) d r = Judged d b.entries r

-- the answer on block n
abbrev pub Checked : State → ℕ → Result Verdict Refusal → Type 0
Checked s n r = CheckedIn (block_at s n) s.description r
