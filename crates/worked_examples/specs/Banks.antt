-- What the registers of a kind hold. Assumes nothing.
use Rattle.std.specs.Prelude.{ℕ, slice_index_or, slice_set}
use Rattle.registers.specs.declared.banked.Banked.{Banked}
use Rattle.registers.specs.declared.banked.Banked.TheVariants as banked
use Rattle.registers.specs.Registers.{RegisterNumber}
use Rattle.worked_examples.specs.declared.bank.Bank.{Bank}

-- what a register holds; each number has its register, and `other` is never it
abbrev pub cell : {T : Type 0} {bits : ℕ} → T → Bank T → Banked RegisterNumber bits → T
cell other b (banked.Static n) = slice_index_or b.fixed n.number other
cell other b (banked.Rotating n) = slice_index_or b.rotating n.number other

abbrev pub with_cell : {T : Type 0} {bits : ℕ} → Bank T → Banked RegisterNumber bits → T → Bank T
with_cell b (banked.Static n) v = record b { fixed = slice_set b.fixed n.number v }
with_cell b (banked.Rotating n) v = record b { rotating = slice_set b.rotating n.number v }
