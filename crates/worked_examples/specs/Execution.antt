-- Operations executed one after the other on registers. Assumes nothing.
use Rattle.std.specs.Prelude.{ℕ, Bool, false, replicate, Some, None, Option}
use Rattle.std.specs.Option.{unwrap_or}
use Rattle.opcodes.specs.Words.{word}
use Rattle.registers.specs.declared.write.Write.{Write}
use Rattle.registers.specs.declared.write.Write.TheVariants.{Word, Bit}
use Rattle.registers.specs.Registers.{General, Predicate, general_constant, predicate_constant}
use Rattle.operations.specs.declared.effect.Effect.{Effect}
use Rattle.operations.specs.declared.effect.Effect.TheVariants as effect
use Rattle.operations.specs.declared.operation.Operation.{Operation}
use Rattle.operations.specs.Access.{sources_of}
use Rattle.operations.specs.Effects.{effect_of}
use Rattle.operations.specs.declared.operation.Source.{Source}
use Rattle.operations.specs.declared.operation.Source.TheVariants as source
use Rattle.worked_examples.specs.Banks.{cell, with_cell}
use Rattle.worked_examples.specs.declared.state.State.{State}

abbrev pub cleared : State
cleared = record {
  words = record { fixed = replicate 32 0; rotating = replicate 32 0 };
  bits = record { fixed = replicate 32 false; rotating = replicate 32 false };
}

-- what a register reads: its constant, or what it holds
abbrev pub word_in : State → General → ℕ
word_in s g = unwrap_or (general_constant g) (cell 0 s.words g)

abbrev pub bit_in : State → Predicate → Bool
bit_in s p = unwrap_or (predicate_constant p) (cell false s.bits p)

abbrev pub source_in : State → Option Source → ℕ
source_in s None = 0
source_in s (Some (source.Register g)) = word_in s g
source_in s (Some (source.Literal z)) = word z

-- what an operation does as things stand
abbrev pub effect_in : State → Operation → Effect
effect_in s x = effect_of x.form (bit_in s x.guard) (source_in s (sources_of x.form).0) (source_in s (sources_of x.form).1)

-- what destinations 1 and 2 get
abbrev pub writes_in : Effect → Option Write × Option Write
writes_in (effect.Writes a b) = (a, b)
writes_in (effect.Load to a) = (None, None)
writes_in (effect.Store a v) = (None, None)

-- after a write
abbrev pub applied : State → Option Write → State
applied s None = s
applied s (Some (Word to v)) = record s { words = with_cell s.words to v }
applied s (Some (Bit to b)) = record s { bits = with_cell s.bits to b }
