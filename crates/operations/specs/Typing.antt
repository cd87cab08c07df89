-- Which raw operations are operations. Assumes nothing.
use Rattle.std.specs.Prelude.{◌≡◌, Bool, true, false, cond, ◌&&◌, is_some, Some, None, Ok, Err, Option, Result, refl}
use Rattle.std.specs.Option.{option_map, option_zip, option_flatten}
use Rattle.opcodes.specs.declared.compare.Action.{Action}
use Rattle.registers.specs.declared.names.RegisterName as name
use Rattle.registers.specs.declared.names.RegisterName.{RegisterName}
use Rattle.operations.specs.declared.operation.Source as source
use Rattle.operations.specs.declared.operation.Source.{Source}
use Rattle.operations.specs.declared.operation.Form as form
use Rattle.operations.specs.declared.operation.Form.{Form}
use Rattle.operations.specs.declared.operation.Operation.{Operation}
use Rattle.operations.specs.declared.raw.Opcode.{Opcode}
use Rattle.operations.specs.declared.raw.Opcode.TheVariants.{Binary, Unary, Compare, Load, Store}
use Rattle.operations.specs.declared.raw.Operand as operand
use Rattle.operations.specs.declared.raw.Operand.{Operand}
use Rattle.operations.specs.declared.raw.UpToTwo.{UpToTwo}
use Rattle.operations.specs.declared.raw.UpToTwo.TheVariants.{Zero, One, Two}
use Rattle.operations.specs.declared.raw.RawOperation.{RawOperation}
use Rattle.operations.specs.declared.refusal.Refusal.{Refusal}
use Rattle.operations.specs.declared.refusal.Refusal.TheVariants.{NoSuch, WrongOperands}
use Rattle.operations.specs.declared.targets.Targets.{Targets}
use Rattle.registers.specs.Registers.{General, Predicate, one_place}
use Rattle.registers.specs.Names.{general_of, predicate_of, register_of}

-- the register of that name, where it is a general one; where it is a predicate
abbrev pub general_named : RegisterName → Option General
general_named (name.TheVariants.General g) = general_of g
general_named (name.TheVariants.Predicate p) = None

abbrev pub predicate_named : RegisterName → Option Predicate
predicate_named (name.TheVariants.General g) = None
predicate_named (name.TheVariants.Predicate p) = predicate_of p

-- a source is a general register or a literal; an address, or what is stored, a general register
abbrev pub source_of : Operand → Option Source
source_of (operand.TheVariants.Register n) = option_map source.TheVariants.Register (general_named n)
source_of (operand.TheVariants.Literal z) = Some (source.TheVariants.Literal z)

abbrev pub address_of : Operand → Option General
address_of (operand.TheVariants.Register n) = general_named n
address_of (operand.TheVariants.Literal z) = None

-- none; just one, where it fits; just two, where both fit
abbrev pub zero : {X : Type 0} → UpToTwo X → Option (Unit {0})
zero Zero = Some tt
zero (One x) = None
zero (Two x y) = None

abbrev pub one : {X Y : Type 0} → (X → Option Y) → UpToTwo X → Option Y
one f Zero = None
one f (One x) = f x
one f (Two x y) = None

abbrev pub two : {X Y : Type 0} → (X → Option Y) → UpToTwo X → Option (Y × Y)
two f Zero = None
two f (One x) = None
two f (Two x y) = option_zip (f x) (f y)

abbrev pub apart : (p q : Predicate) (a b : Action) (same : Bool) → one_place p q ≡ same → Option Targets
apart p q a b true e = None
apart p q a b false e = Some (record { first = record { to = p; action = a }; second = record { to = q; action = b }; apart = e })

-- the destinations of a compare, which are not one place
abbrev pub targets_of : Action → Action → Predicate × Predicate → Option Targets
targets_of a b p = apart p.0 p.1 a b (one_place p.0 p.1) refl

-- what each opcode takes: its destinations, and then its sources
abbrev pub form_of : Opcode → UpToTwo RegisterName → UpToTwo Operand → Option Form
form_of (Binary o) d s = option_map (λ x. form.TheVariants.Binary o x.0 x.1.0 x.1.1) (option_zip (one general_named d) (two source_of s))
form_of (Unary o) d s = option_map (λ x. form.TheVariants.Unary o x.0 x.1) (option_zip (one general_named d) (one source_of s))
form_of (Compare c a b) d s = option_map (λ x. form.TheVariants.Compare c x.0 x.1.0 x.1.1) (option_zip (option_flatten (option_map (targets_of a b) (two predicate_named d))) (two source_of s))
form_of Load d s = option_map (λ x. form.TheVariants.Load x.0 x.1) (option_zip (one general_named d) (one address_of s))
form_of Store d s = option_map (λ x. form.TheVariants.Store x.1.0 x.1.1) (option_zip (zero d) (two address_of s))

abbrev pub each : {X : Type 0} → (X → Bool) → UpToTwo X → Bool
each f Zero = true
each f (One x) = f x
each f (Two x y) = f x && f y

abbrev pub known_name : RegisterName → Bool
known_name n = is_some (register_of n)

abbrev pub known_operand : Operand → Bool
known_operand (operand.TheVariants.Register n) = known_name n
known_operand (operand.TheVariants.Literal z) = true

-- whether there is each register that is named
abbrev pub names_exist : RawOperation → Bool
names_exist q = is_some (predicate_of q.guard) && (each known_name q.destinations && each known_operand q.sources)

abbrev pub guarded : Option Predicate → Option Form → Result Operation Refusal
guarded None f = Err NoSuch
guarded (Some g) None = Err WrongOperands
guarded (Some g) (Some f) = Ok (record { guard = g; form = f })

-- the operation, or that a register is missing, or else that the operands do not fit
abbrev pub typed_of : RawOperation → Result Operation Refusal
typed_of q = cond (names_exist q) (guarded (predicate_of q.guard) (form_of q.opcode q.destinations q.sources)) (Err NoSuch)
