-- A written operation as it is handed in. Assumes nothing.
use Rattle.std.specs.Prelude.{◌^◌, Bool, true, cond, ◌&&◌, ℤ, pos, negsuc, nat_lt}
use Rattle.operations.specs.declared.raw.Operand.{Operand}
use Rattle.operations.specs.declared.raw.Operand.TheVariants as operand
use Rattle.operations.specs.declared.raw.UpToTwo.{UpToTwo}
use Rattle.operations.specs.declared.raw.UpToTwo.TheVariants as up_to
use Rattle.operations.specs.declared.raw.RawOperation.{RawOperation}
use Rattle.registers.specs.Names.{handed, raw_name, GeneralName, PredicateName}
use Rattle.lines.specs.Banks.{WrittenGeneral, WrittenPredicate}
use Rattle.registers.specs.declared.names.RegisterName.{RegisterName}
use Rattle.registers.specs.declared.names.RegisterName.TheVariants as name
use Rattle.blocks.specs.declared.exit.RawExit.{RawExit}
use Rattle.blocks.specs.declared.exit.RawExit.TheVariants as raw
use Rattle.lines.specs.declared.written.WrittenRegister.{WrittenRegister}
use Rattle.lines.specs.declared.written.WrittenRegister.TheVariants as register
use Rattle.lines.specs.declared.written.WrittenExit.{WrittenExit}
use Rattle.lines.specs.declared.written.WrittenExit.TheVariants as exit
use Rattle.lines.specs.declared.written.WrittenOperand.{WrittenOperand}
use Rattle.lines.specs.declared.written.WrittenOperand.TheVariants.{Register, Literal}
use Rattle.lines.specs.declared.written.WrittenSources.{WrittenSources}
use Rattle.lines.specs.declared.written.WrittenSources.TheVariants.{One, Two}
use Rattle.lines.specs.declared.written.WrittenOperation.{WrittenOperation}

abbrev pub raw_general : WrittenGeneral → GeneralName
raw_general = raw_name

abbrev pub raw_predicate : WrittenPredicate → PredicateName
raw_predicate = raw_name

abbrev pub raw_register : WrittenRegister → RegisterName
raw_register (register.General g) = name.General (raw_general g)
raw_register (register.Predicate p) = name.Predicate (raw_predicate p)

abbrev pub raw_destinations : UpToTwo WrittenRegister → UpToTwo RegisterName
raw_destinations up_to.Zero = up_to.Zero
raw_destinations (up_to.One d) = up_to.One (raw_register d)
raw_destinations (up_to.Two d e) = up_to.Two (raw_register d) (raw_register e)

abbrev pub raw_exit : WrittenExit → RawExit
raw_exit exit.Halt = raw.Halt
raw_exit exit.Next = raw.Next
raw_exit (exit.Goto t) = raw.Goto (handed t)
raw_exit (exit.If p t) = raw.If (raw_predicate p) (handed t)
raw_exit (exit.Loop t) = raw.Loop (handed t)

-- whether 32 bits hold the signed number
abbrev pub in_range : ℤ → Bool
in_range (pos n) = nat_lt n (2 ^ 31)
in_range (negsuc n) = nat_lt n (2 ^ 31)

-- 0 stands for a literal that 32 bits do not hold
abbrev pub raw_operand : WrittenOperand → Operand
raw_operand (Register x) = operand.Register (raw_register x)
raw_operand (Literal z) = operand.Literal (cond (in_range z) z (pos 0))

abbrev pub raw_sources : WrittenSources → UpToTwo Operand
raw_sources (One a) = up_to.One (raw_operand a)
raw_sources (Two a b) = up_to.Two (raw_operand a) (raw_operand b)

abbrev pub raw_operation : WrittenOperation → RawOperation
raw_operation w = record {
  opcode = w.opcode;
  guard = raw_predicate w.guard;
  destinations = raw_destinations w.destinations;
  sources = raw_sources w.sources;
}

abbrev pub operand_held : WrittenOperand → Bool
operand_held (Register x) = true
operand_held (Literal z) = in_range z

-- whether 32 bits hold each literal
abbrev pub literals_held : WrittenSources → Bool
literals_held (One a) = operand_held a
literals_held (Two a b) = operand_held a && operand_held b
