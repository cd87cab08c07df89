-- Which exits a block may have. Assumes nothing.
use Rattle.std.specs.Prelude.{◌≡◌, ℕ, Bool, true, false, cond, ◌&&◌, Some, None, Option, nat_le, nat_lt, refl}
use Rattle.std.proofs.Common.{ltb-true}
use Rattle.std.specs.Option.{option_map, option_zip}
use Rattle.registers.specs.declared.number.NumberBelow.{NumberBelow}
use Rattle.registers.specs.Registers.{below, numbered}
use Rattle.registers.specs.Names.{predicate_of}
use Rattle.blocks.specs.declared.exit.Exit.{Exit}
use Rattle.blocks.specs.declared.exit.Exit.TheVariants as exit
use Rattle.blocks.specs.declared.exit.RawExit.{RawExit}
use Rattle.blocks.specs.declared.exit.RawExit.TheVariants.{Halt, Next, Goto, If, Loop}

abbrev pub BlockNumber : Type 0
BlockNumber = NumberBelow 16

abbrev pub block_below : (n : ℕ) (b : Bool) → nat_lt n 16 ≡ b → Option BlockNumber
block_below = below

-- the block number n: there is one for each n below 16
abbrev pub block_numbered : ℕ → Option BlockNumber
block_numbered = numbered

-- the exit, where there are the block and the register that it names
abbrev pub exit_named : RawExit → Option Exit
exit_named Halt = Some exit.Halt
exit_named Next = Some exit.Next
exit_named (Goto t) = option_map exit.Goto (block_numbered t)
exit_named (If p t) = option_map (λ x. exit.If x.0 x.1) (option_zip (predicate_of p) (block_numbered t))
exit_named (Loop t) = option_map exit.Loop (block_numbered t)

-- whether an exit can lead to the block behind
abbrev pub raw_goes_on : RawExit → Bool
raw_goes_on Halt = false
raw_goes_on Next = true
raw_goes_on (Goto t) = false
raw_goes_on (If p t) = true
raw_goes_on (Loop t) = true

abbrev pub goes_on : Exit → Bool
goes_on exit.Halt = false
goes_on exit.Next = true
goes_on (exit.Goto t) = false
goes_on (exit.If p t) = true
goes_on (exit.Loop t) = true

-- the exit as one of block b: no block stands behind block 15
abbrev pub exit_for : ℕ → RawExit → Option Exit
exit_for b x = cond (nat_le 15 b && raw_goes_on x) None (exit_named x)
