-- Writes to registers. Assumes nothing.
use Rattle.std.specs.Prelude.{ℕ, Bool, Option}
use Rattle.std.specs.Option.{option_map}
use Rattle.registers.specs.declared.write.Write.{Write}
use Rattle.registers.specs.declared.write.Write.TheVariants.{Word, Bit}
use Rattle.registers.specs.Registers.{General, Predicate, general_place, predicate_place}

-- a write to a register; to one that is no place it is dropped
abbrev pub word_write : General → ℕ → Option Write
word_write to v = option_map (λ _. Word to v) (general_place to)

abbrev pub bit_write : Predicate → Bool → Option Write
bit_write to b = option_map (λ _. Bit to b) (predicate_place to)
