-- What the calls do to the whole set of blocks. Assumes nothing.
use Rattle.std.specs.Prelude.{ℕ, cond, List, replicate, Some, None, Ok, Err, Option, nat_lt, slice_index_or, slice_set}
use Rattle.operations.specs.declared.raw.RawOperation.{RawOperation}
use Rattle.operations.specs.declared.refusal.Refusal.TheVariants.{NoSuch}
use Rattle.blocks.specs.declared.description.Description.{Description}
use Rattle.blocks.specs.declared.exit.RawExit.{RawExit}
use Rattle.blocks.specs.Steps.{Outcome}
use Rattle.blocks.specs.Machine.{slots_of}
use Rattle.blocks.specs.Model.{Body, empty, add_step, place_step, lift_step, exit_step}

-- the machine and its blocks, by number
pub record State : Type 0 where
  pub description : Description
  pub bodies : List Body

-- sixteen empty blocks
abbrev pub fresh : Description → State
fresh d = record { description = d; bodies = replicate 16 empty }

abbrev pub body_at : State → ℕ → Body
body_at s n = slice_index_or s.bodies n empty

-- only block n changes
abbrev pub put_back : {X : Type 0} → State → ℕ → Outcome X Body → Outcome X State
put_back s n (Ok p) = Ok (p.0, record { description = s.description; bodies = slice_set s.bodies n p.1 })
put_back s n (Err e) = Err e

-- a step of block n, one of sixteen
abbrev pub in_block : {X : Type 0} → State → ℕ → (Body → Outcome X Body) → Outcome X State
in_block s n step = cond (nat_lt n 16) (put_back s n (step (body_at s n))) (Err NoSuch)

abbrev pub add_call : State → ℕ → RawOperation → Outcome ℕ State
add_call s n q = in_block s n (λ b. add_step b q)

-- operation i to cycle c and slot k
abbrev pub place_call : State → ℕ → ℕ → ℕ → ℕ → Outcome (Unit {0}) State
place_call s n i c k = in_block s n (λ b. place_step (slots_of s.description.slots) b i c k)

abbrev pub lift_call : State → ℕ → ℕ → Outcome (Unit {0}) State
lift_call s n i = in_block s n (λ b. lift_step b i)

abbrev pub exit_call : State → ℕ → RawExit → Outcome (Unit {0}) State
exit_call s n x = in_block s n (λ b. exit_step n b x)

-- the block of that number, where there is one
abbrev pub block_at : State → ℕ → Option Body
block_at s n = cond (nat_lt n 16) (Some (body_at s n)) None
