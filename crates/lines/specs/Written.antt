-- Operations as a line writes them. Assumes nothing.
use Rattle.std.specs.Prelude.{ℕ, Bool, false, cond, List, [], ◌++◌, codes, decimal, ◌==◌}
use Rattle.std.specs.Fmt.{signed_decimal}
use Rattle.opcodes.specs.Texts.{binary_text, unary_text, condition_text, action_text}
use Rattle.registers.specs.declared.banked.Banked.TheVariants as banked
use Rattle.lines.specs.Banks.{WrittenGeneral, WrittenPredicate}
use Rattle.lines.specs.declared.written.WrittenRegister.{WrittenRegister}
use Rattle.lines.specs.declared.written.WrittenRegister.TheVariants as name
use Rattle.operations.specs.declared.raw.Opcode.{Opcode}
use Rattle.operations.specs.declared.raw.Opcode.TheVariants as opcode
use Rattle.operations.specs.declared.raw.UpToTwo.{UpToTwo}
use Rattle.operations.specs.declared.raw.UpToTwo.TheVariants as up_to
use Rattle.lines.specs.declared.written.WrittenOperand.{WrittenOperand}
use Rattle.lines.specs.declared.written.WrittenOperand.TheVariants.{Register, Literal}
use Rattle.lines.specs.declared.written.WrittenSources.{WrittenSources}
use Rattle.lines.specs.declared.written.WrittenSources.TheVariants.{One, Two}
use Rattle.lines.specs.declared.written.WrittenOperation.{WrittenOperation}
use Rattle.lines.specs.Numbers.{Short, ShortLiteral}

abbrev pub general_name_text : WrittenGeneral → List ℕ
general_name_text (banked.Static n) = codes "r" ++ decimal n
general_name_text (banked.Rotating n) = codes "rr" ++ decimal n

abbrev pub predicate_name_text : WrittenPredicate → List ℕ
predicate_name_text (banked.Static n) = codes "p" ++ decimal n
predicate_name_text (banked.Rotating n) = codes "rp" ++ decimal n

abbrev pub name_text : WrittenRegister → List ℕ
name_text (name.General g) = general_name_text g
name_text (name.Predicate p) = predicate_name_text p

abbrev pub opcode_text : Opcode → List ℕ
opcode_text (opcode.Binary o) = binary_text o ++ codes ".W"
opcode_text (opcode.Unary o) = unary_text o ++ codes ".W"
opcode_text (opcode.Compare c a b) = codes "CMPP.W." ++ (condition_text c ++ (codes "." ++ (action_text a ++ (codes "." ++ action_text b))))
opcode_text opcode.Load = codes "L"
opcode_text opcode.Store = codes "S"

abbrev pub operand_text : WrittenOperand → List ℕ
operand_text (Register x) = name_text x
operand_text (Literal z) = signed_decimal z

-- the sources, and then rest
abbrev pub sources_text : WrittenSources → List ℕ → List ℕ
sources_text (One a) rest = operand_text a ++ rest
sources_text (Two a b) rest = operand_text a ++ (codes ", " ++ (operand_text b ++ rest))

-- the destinations, and then rest
abbrev pub destinations_text : UpToTwo WrittenRegister → List ℕ → List ℕ
destinations_text up_to.Zero rest = rest
destinations_text (up_to.One d) rest = name_text d ++ (codes " = " ++ rest)
destinations_text (up_to.Two d e) rest = name_text d ++ (codes ", " ++ (name_text e ++ (codes " = " ++ rest)))

-- p1, the guard that is left off
abbrev pub always : WrittenPredicate → Bool
always (banked.Static n) = n == 1
always (banked.Rotating n) = false

abbrev pub guard_text : WrittenPredicate → List ℕ
guard_text g = cond (always g) [] (codes " if " ++ predicate_name_text g)

-- the sources, the bracket behind them, and the guard
abbrev pub closing_text : WrittenSources → WrittenPredicate → List ℕ
closing_text s g = sources_text s (codes ")" ++ guard_text g)

abbrev pub call_text : Opcode → WrittenSources → WrittenPredicate → List ℕ
call_text o s g = opcode_text o ++ (codes "(" ++ closing_text s g)

abbrev pub written_text : WrittenOperation → List ℕ
written_text w = destinations_text w.destinations (call_text w.opcode w.sources w.guard)

abbrev pub general_number : WrittenGeneral → ℕ
general_number (banked.Static n) = n
general_number (banked.Rotating n) = n

abbrev pub predicate_number : WrittenPredicate → ℕ
predicate_number (banked.Static n) = n
predicate_number (banked.Rotating n) = n

abbrev pub name_number : WrittenRegister → ℕ
name_number (name.General g) = general_number g
name_number (name.Predicate p) = predicate_number p

abbrev pub ShortName : WrittenRegister → Type 0
ShortName x = Short (name_number x)

abbrev pub ShortOperand : WrittenOperand → Type 0
ShortOperand (Register x) = ShortName x
ShortOperand (Literal z) = ShortLiteral z

abbrev pub ShortSources : WrittenSources → Type 0
ShortSources (One a) = ShortOperand a
ShortSources (Two a b) = ShortOperand a × ShortOperand b

abbrev pub ShortDestinations : UpToTwo WrittenRegister → Type 0
ShortDestinations up_to.Zero = Unit {0}
ShortDestinations (up_to.One d) = ShortName d
ShortDestinations (up_to.Two d e) = ShortName d × ShortName e

-- all its numbers have at most ten digits
pub record ShortOperation (w : WrittenOperation) : Type 0 where
  pub destinations : ShortDestinations w.destinations
  pub sources : ShortSources w.sources
  pub guard : Short (predicate_number w.guard)
