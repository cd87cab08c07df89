-- An operation as it is handed in. Assumes nothing.
use Rattle.std.specs.Prelude.{◌≡◌, ℕ, ◌↔◌, Ok, Result}
use Rattle.registers.specs.declared.banked.Banked.{Banked}
use Rattle.registers.specs.declared.banked.Banked.TheVariants as banked
use Rattle.registers.specs.Registers.{RegisterNumber, General, Predicate}
use Rattle.registers.specs.Names.{GeneralName, PredicateName}
use Rattle.registers.specs.declared.names.RegisterName as name
use Rattle.registers.specs.declared.names.RegisterName.{RegisterName}
use Rattle.operations.specs.declared.operation.Source as source
use Rattle.operations.specs.declared.operation.Source.{Source}
use Rattle.operations.specs.declared.operation.Form.{Form}
use Rattle.operations.specs.declared.operation.Form.TheVariants.{Binary, Unary, Compare, Load, Store}
use Rattle.operations.specs.declared.operation.Operation.{Operation}
use Rattle.operations.specs.declared.raw.Opcode as opcode
use Rattle.operations.specs.declared.raw.Opcode.{Opcode}
use Rattle.operations.specs.declared.raw.Operand as operand
use Rattle.operations.specs.declared.raw.Operand.{Operand}
use Rattle.operations.specs.declared.raw.UpToTwo.{UpToTwo}
use Rattle.operations.specs.declared.raw.UpToTwo.TheVariants.{Zero, One, Two}
use Rattle.operations.specs.declared.raw.RawOperation.{RawOperation}
use Rattle.operations.specs.declared.refusal.Refusal.{Refusal}

-- a register by its name
abbrev pub name_of : {bits : ℕ} → Banked RegisterNumber bits → Banked ℕ bits
name_of (banked.Static n) = banked.Static n.number
name_of (banked.Rotating n) = banked.Rotating n.number

abbrev pub name_of_general : General → GeneralName
name_of_general = name_of

abbrev pub name_of_predicate : Predicate → PredicateName
name_of_predicate = name_of

abbrev pub named_general : General → RegisterName
named_general g = name.TheVariants.General (name_of_general g)

abbrev pub named_predicate : Predicate → RegisterName
named_predicate p = name.TheVariants.Predicate (name_of_predicate p)

abbrev pub raw_source : Source → Operand
raw_source (source.TheVariants.Register g) = operand.TheVariants.Register (named_general g)
raw_source (source.TheVariants.Literal z) = operand.TheVariants.Literal z

abbrev pub raw_address : General → Operand
raw_address g = operand.TheVariants.Register (named_general g)

abbrev pub raw_opcode : Form → Opcode
raw_opcode (Binary o d a b) = opcode.TheVariants.Binary o
raw_opcode (Unary o d a) = opcode.TheVariants.Unary o
raw_opcode (Compare c t a b) = opcode.TheVariants.Compare c t.first.action t.second.action
raw_opcode (Load d a) = opcode.TheVariants.Load
raw_opcode (Store a v) = opcode.TheVariants.Store

abbrev pub raw_destinations : Form → UpToTwo RegisterName
raw_destinations (Binary o d a b) = One (named_general d)
raw_destinations (Unary o d a) = One (named_general d)
raw_destinations (Compare c t a b) = Two (named_predicate t.first.to) (named_predicate t.second.to)
raw_destinations (Load d a) = One (named_general d)
raw_destinations (Store a v) = Zero

abbrev pub raw_sources : Form → UpToTwo Operand
raw_sources (Binary o d a b) = Two (raw_source a) (raw_source b)
raw_sources (Unary o d a) = One (raw_source a)
raw_sources (Compare c t a b) = Two (raw_source a) (raw_source b)
raw_sources (Load d a) = One (raw_address a)
raw_sources (Store a v) = Two (raw_address a) (raw_address v)

-- the operation with its registers by name
abbrev pub raw_of : Operation → RawOperation
raw_of x = record {
  opcode = raw_opcode x.form;
  guard = name_of_predicate x.guard;
  destinations = raw_destinations x.form;
  sources = raw_sources x.form;
}

-- what is handed in is accepted as an operation if and only if it is that operation with its registers by name
abbrev pub Accepts : RawOperation → Result Operation Refusal → Type 0
Accepts q r = (x : Operation) → (r ≡ Ok x) ↔ (raw_of x ≡ q)
