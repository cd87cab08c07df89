-- The registers and blocks that a line means, by the numbers that it writes; and those that what is handed in names. Assumes nothing.
use Rattle.std.specs.Prelude.{List, [], ◌∷◌, ◌++◌, Some, Option}
use Rattle.std.specs.Option.{option_map, option_zip}
use Rattle.lines.specs.Banks.{WrittenGeneral, WrittenPredicate}
use Rattle.registers.specs.declared.register.Register.{Register}
use Rattle.registers.specs.declared.register.Register.TheVariants as register
use Rattle.registers.specs.declared.names.RegisterName.{RegisterName}
use Rattle.registers.specs.Registers.{General, Predicate}
use Rattle.registers.specs.Names.{named, predicate_of, register_of}
use Rattle.operations.specs.declared.raw.Operand.{Operand}
use Rattle.operations.specs.declared.raw.Operand.TheVariants as operand
use Rattle.operations.specs.declared.raw.UpToTwo.{UpToTwo}
use Rattle.operations.specs.declared.raw.UpToTwo.TheVariants as up_to
use Rattle.operations.specs.declared.raw.RawOperation.{RawOperation}
use Rattle.blocks.specs.declared.exit.Exit.{Exit}
use Rattle.blocks.specs.declared.exit.Exit.TheVariants as exit
use Rattle.blocks.specs.Exits.{block_numbered}
use Rattle.lines.specs.declared.written.WrittenRegister.{WrittenRegister}
use Rattle.lines.specs.declared.written.WrittenRegister.TheVariants as written_register
use Rattle.lines.specs.declared.written.WrittenExit.{WrittenExit}
use Rattle.lines.specs.declared.written.WrittenExit.TheVariants as written_exit
use Rattle.lines.specs.declared.written.WrittenOperand.{WrittenOperand}
use Rattle.lines.specs.declared.written.WrittenOperand.TheVariants.{Register as register_written, Literal}
use Rattle.lines.specs.declared.written.WrittenSources.{WrittenSources}
use Rattle.lines.specs.declared.written.WrittenSources.TheVariants.{One, Two}
use Rattle.lines.specs.declared.written.WrittenOperation.{WrittenOperation}

abbrev pub general_meant : WrittenGeneral → Option General
general_meant = named

abbrev pub predicate_meant : WrittenPredicate → Option Predicate
predicate_meant = named

abbrev pub register_meant : WrittenRegister → Option Register
register_meant (written_register.General g) = option_map register.General (general_meant g)
register_meant (written_register.Predicate p) = option_map register.Predicate (predicate_meant p)

-- the exit, where there are the block and the register that the line writes
abbrev pub exit_meant : WrittenExit → Option Exit
exit_meant written_exit.Halt = Some exit.Halt
exit_meant written_exit.Next = Some exit.Next
exit_meant (written_exit.Goto t) = option_map exit.Goto (block_numbered t)
exit_meant (written_exit.If p t) = option_map (λ x. exit.If x.0 x.1) (option_zip (predicate_meant p) (block_numbered t))
exit_meant (written_exit.Loop t) = option_map exit.Loop (block_numbered t)

abbrev pub operand_meant : WrittenOperand → List (Option Register)
operand_meant (register_written x) = register_meant x ∷ []
operand_meant (Literal z) = []

abbrev pub sources_meant : WrittenSources → List (Option Register)
sources_meant (One a) = operand_meant a
sources_meant (Two a b) = operand_meant a ++ operand_meant b

abbrev pub destinations_meant : UpToTwo WrittenRegister → List (Option Register)
destinations_meant up_to.Zero = []
destinations_meant (up_to.One d) = register_meant d ∷ []
destinations_meant (up_to.Two d e) = register_meant d ∷ register_meant e ∷ []

-- the registers of an operation in their order, the guard first, then destinations and sources; None for one that there is not
abbrev pub registers_meant : WrittenOperation → List (Option Register)
registers_meant w = option_map register.Predicate (predicate_meant w.guard) ∷ (destinations_meant w.destinations ++ sources_meant w.sources)

abbrev pub operand_named : Operand → List (Option Register)
operand_named (operand.Register x) = register_of x ∷ []
operand_named (operand.Literal z) = []

abbrev pub sources_named : UpToTwo Operand → List (Option Register)
sources_named up_to.Zero = []
sources_named (up_to.One a) = operand_named a
sources_named (up_to.Two a b) = operand_named a ++ operand_named b

abbrev pub destinations_named : UpToTwo RegisterName → List (Option Register)
destinations_named up_to.Zero = []
destinations_named (up_to.One d) = register_of d ∷ []
destinations_named (up_to.Two d e) = register_of d ∷ register_of e ∷ []

-- the same of an operation as it is handed in
abbrev pub registers_named : RawOperation → List (Option Register)
registers_named q = option_map register.Predicate (predicate_of q.guard) ∷ (destinations_named q.destinations ++ sources_named q.sources)
