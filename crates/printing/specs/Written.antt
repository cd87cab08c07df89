-- An operation, its position and an exit as a line writes them. Assumes nothing.
use Rattle.std.specs.Option.{option_map}
use Rattle.operations.specs.declared.operation.Source.{Source}
use Rattle.operations.specs.declared.operation.Source.TheVariants as source
use Rattle.operations.specs.declared.operation.Form.{Form}
use Rattle.operations.specs.declared.operation.Form.TheVariants as form
use Rattle.operations.specs.declared.operation.Operation.{Operation}
use Rattle.operations.specs.declared.raw.UpToTwo.{UpToTwo}
use Rattle.operations.specs.declared.raw.UpToTwo.TheVariants as up_to
use Rattle.operations.specs.Raw.{raw_opcode}
use Rattle.registers.specs.declared.banked.Banked.TheVariants as banked
use Rattle.registers.specs.Registers.{General, Predicate}
use Rattle.lines.specs.Banks.{WrittenGeneral, WrittenPredicate}
use Rattle.blocks.specs.declared.exit.Exit.{Exit}
use Rattle.blocks.specs.declared.exit.Exit.TheVariants as exit
use Rattle.blocks.specs.declared.position.Position.{Position}
use Rattle.blocks.specs.declared.position.Entry.{Entry}
use Rattle.lines.specs.declared.written.WrittenRegister.{WrittenRegister}
use Rattle.lines.specs.declared.written.WrittenRegister.TheVariants as name
use Rattle.lines.specs.declared.written.WrittenExit.{WrittenExit}
use Rattle.lines.specs.declared.written.WrittenExit.TheVariants as written
use Rattle.lines.specs.declared.written.WrittenOperand.{WrittenOperand}
use Rattle.lines.specs.declared.written.WrittenOperand.TheVariants.{Register, Literal}
use Rattle.lines.specs.declared.written.WrittenSources.{WrittenSources}
use Rattle.lines.specs.declared.written.WrittenSources.TheVariants.{One, Two}
use Rattle.lines.specs.declared.written.WrittenOperation.{WrittenOperation}
use Rattle.lines.specs.declared.written.WrittenPosition.{WrittenPosition}
use Rattle.lines.specs.declared.written.ProgramLine.{ProgramLine}
use Rattle.lines.specs.declared.written.ProgramLine.TheVariants as line

abbrev pub written_general : General → WrittenGeneral
written_general (banked.Static n) = banked.Static n.number
written_general (banked.Rotating n) = banked.Rotating n.number

abbrev pub written_predicate : Predicate → WrittenPredicate
written_predicate (banked.Static n) = banked.Static n.number
written_predicate (banked.Rotating n) = banked.Rotating n.number

abbrev pub general_register : General → WrittenRegister
general_register g = name.General (written_general g)

abbrev pub predicate_register : Predicate → WrittenRegister
predicate_register p = name.Predicate (written_predicate p)

abbrev pub written_source : Source → WrittenOperand
written_source (source.Register g) = Register (general_register g)
written_source (source.Literal z) = Literal z

abbrev pub written_address : General → WrittenOperand
written_address g = Register (general_register g)

abbrev pub written_sources : Form → WrittenSources
written_sources (form.Binary o d a b) = Two (written_source a) (written_source b)
written_sources (form.Unary o d a) = One (written_source a)
written_sources (form.Compare c t a b) = Two (written_source a) (written_source b)
written_sources (form.Load d a) = One (written_address a)
written_sources (form.Store a v) = Two (written_address a) (written_address v)

abbrev pub written_destinations : Form → UpToTwo WrittenRegister
written_destinations (form.Binary o d a b) = up_to.One (general_register d)
written_destinations (form.Unary o d a) = up_to.One (general_register d)
written_destinations (form.Compare c t a b) = up_to.Two (predicate_register t.first.to) (predicate_register t.second.to)
written_destinations (form.Load d a) = up_to.One (general_register d)
written_destinations (form.Store a v) = up_to.Zero

abbrev pub written_operation : Operation → WrittenOperation
written_operation x = record {
  opcode = raw_opcode x.form;
  guard = written_predicate x.guard;
  destinations = written_destinations x.form;
  sources = written_sources x.form;
}

abbrev pub written_position : Position → WrittenPosition
written_position p = record { cycle = p.cycle; slot = p.slot }

abbrev pub written_exit : Exit → WrittenExit
written_exit exit.Halt = written.Halt
written_exit exit.Next = written.Next
written_exit (exit.Goto t) = written.Goto t.number
written_exit (exit.If p t) = written.If (written_predicate p) t.number
written_exit (exit.Loop t) = written.Loop t.number

abbrev pub entry_line : Entry → ProgramLine
entry_line e = line.Operation (option_map written_position e.position) (written_operation e.operation)
