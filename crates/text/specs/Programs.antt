-- A program, line by line. Assumes nothing.
use Rattle.std.specs.Prelude.{ℕ, Bool, true, cond, length, Some, None, Ok, Err, Option, Result, nat_lt}
use Rattle.operations.specs.declared.refusal.Refusal.{Refusal}
use Rattle.operations.specs.declared.refusal.Refusal.TheVariants.{Unreadable, NoSuch, BeyondLimit}
use Rattle.blocks.specs.declared.description.Description.{Description}
use Rattle.lines.specs.declared.written.WrittenExit.{WrittenExit}
use Rattle.blocks.specs.Machine.{slots_of}
use Rattle.blocks.specs.Steps.{Outcome}
use Rattle.blocks.specs.Calls.{State, fresh, add_call, place_call, exit_call}
use Rattle.lines.specs.declared.written.WrittenPosition.{WrittenPosition}
use Rattle.lines.specs.declared.written.WrittenOperation.{WrittenOperation}
use Rattle.lines.specs.declared.written.ProgramLine as line
use Rattle.lines.specs.declared.written.ProgramLine.{ProgramLine}
use Rattle.lines.specs.Raw.{raw_operation, raw_exit, literals_held}
use Rattle.text.specs.declared.stage.Stage.{Stage}
use Rattle.text.specs.declared.stage.Stage.TheVariants.{Start, Open, Ended}

-- the blocks so far, and where in the program we are
pub record Reading : Type 0 where
  pub state : State
  pub stage : Stage

abbrev pub start : Description → Reading
start d = record { state = fresh d; stage = Start }

-- blocks come ascending
abbrev pub above : Stage → ℕ → Bool
above Start n = true
above (Open b) n = nat_lt b n
above (Ended b) n = nat_lt b n

abbrev pub slot_there : State → Option WrittenPosition → Bool
slot_there s None = true
slot_there s (Some p) = nat_lt p.slot (length (slots_of s.description.slots))

abbrev pub placed_at : State → ℕ → ℕ → Option WrittenPosition → Outcome (Unit {0}) State
placed_at s b i None = Ok (tt, s)
placed_at s b i (Some p) = place_call s b i p.cycle p.slot

-- the operation that has been added is placed
abbrev pub then_placed : ℕ → Option WrittenPosition → Bool → Outcome ℕ State → Outcome (Unit {0}) State
then_placed b p held (Ok x) = cond held (placed_at x.1 b x.0 p) (Err BeyondLimit)
then_placed b p held (Err e) = Err e

-- an operation of block b is added and placed; the slot is looked for first, a literal that is too large is seen last
abbrev pub operation_call : State → ℕ → Option WrittenPosition → WrittenOperation → Outcome (Unit {0}) State
operation_call s b p w = cond (slot_there s p) (then_placed b p (literals_held w.sources) (add_call s b (raw_operation w))) (Err NoSuch)

abbrev pub at_stage : Stage → Outcome (Unit {0}) State → Result Reading Refusal
at_stage g (Ok x) = Ok (record { state = x.1; stage = g })
at_stage g (Err e) = Err e

abbrev pub block_line : Reading → ℕ → Result Reading Refusal
block_line r n = cond (above r.stage n) (cond (nat_lt n 16) (Ok (record { state = r.state; stage = Open n })) (Err NoSuch)) (Err Unreadable)

-- operations and an exit stand in a block, and nothing behind its exit
abbrev pub in_open : Stage → (ℕ → Result Reading Refusal) → Result Reading Refusal
in_open Start f = Err Unreadable
in_open (Open b) f = f b
in_open (Ended b) f = Err Unreadable

abbrev pub operation_line : Reading → Option WrittenPosition → WrittenOperation → Result Reading Refusal
operation_line r p w = in_open r.stage (λ b. at_stage (Open b) (operation_call r.state b p w))

abbrev pub exit_line : Reading → WrittenExit → Result Reading Refusal
exit_line r x = in_open r.stage (λ b. at_stage (Ended b) (exit_call r.state b (raw_exit x)))

abbrev pub program_step : Reading → ProgramLine → Result Reading Refusal
program_step r (line.TheVariants.Block n) = block_line r n
program_step r (line.TheVariants.Operation p w) = operation_line r p w
program_step r (line.TheVariants.Exit x) = exit_line r x
