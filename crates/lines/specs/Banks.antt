-- Registers with any number, by their kinds. Assumes nothing.
use Rattle.std.specs.Prelude.{ℕ}
use Rattle.registers.specs.declared.banked.Banked.{Banked}

abbrev pub WrittenGeneral : Type 0
WrittenGeneral = Banked ℕ 32

abbrev pub WrittenPredicate : Type 0
WrittenPredicate = Banked ℕ 1
