-- What is read of a line, part by part. Assumes nothing.
use Rattle.std.specs.Prelude.{◌≡◌, ℕ, List, [], ◌++◌, IfSome, Some, codes, decimal, Option}
use Rattle.lines.specs.declared.written.WrittenRegister.{WrittenRegister}
use Rattle.lines.specs.declared.written.WrittenOperand.{WrittenOperand}
use Rattle.lines.specs.declared.written.WrittenOperand.TheVariants as operand
use Rattle.lines.specs.declared.written.Token.{Token}
use Rattle.lines.specs.declared.written.Token.TheVariants.{Register, Literal}
use Rattle.lines.specs.declared.written.WrittenExit.{WrittenExit}
use Rattle.lines.specs.declared.written.WrittenExit.TheVariants as exit
use Rattle.operations.specs.declared.raw.UpToTwo.{UpToTwo}
use Rattle.operations.specs.declared.raw.UpToTwo.TheVariants as up_to
use Rattle.lines.specs.declared.written.WrittenOperation.{WrittenOperation}
use Rattle.lines.specs.declared.written.ProgramLine.{ProgramLine}
use Rattle.lines.specs.declared.written.ProgramLine.TheVariants as line
use Rattle.lines.specs.declared.mark.Latency.{Latency}
use Rattle.lines.specs.declared.mark.Latency.TheVariants as latency
use Rattle.lines.specs.declared.written.WrittenBounds.{WrittenBounds}
use Rattle.lines.specs.declared.written.DescriptionLine.{DescriptionLine}
use Rattle.lines.specs.declared.written.DescriptionLine.TheVariants as described
use Rattle.lines.specs.Lines.{exit_text, bounds_text, classes_text, ShortPosition, ShortDescription}
use Rattle.lines.specs.Numbers.{Short}
use Rattle.lines.specs.Written.{name_text, predicate_name_text, call_text, predicate_number, ShortName, ShortSources, ShortOperation}
use Rattle.lines.specs.Tokens.{TokenAt}

abbrev pub operand_token : WrittenOperand → Token
operand_token (operand.Register x) = Register x
operand_token (operand.Literal z) = Literal z

-- from text to rest one token is read, by which x is said, or nothing; there is only one such x and rest
pub record Says {X : Type 0} (token : X → Token) (text : List ℕ) (r : Option X) (rest : List ℕ) : Type 0 where
  pub sound : IfSome r (λ x. TokenAt text (token x) rest)
  pub complete : (x : X) (after : List ℕ) → TokenAt text (token x) after → (r ≡ Some x) × (rest ≡ after)

-- the word is read from text to rest, or not; there is only one such rest
pub record Passes (word text : List ℕ) (r : Option (Unit {0})) (rest : List ℕ) : Type 0 where
  pub sound : IfSome r (λ _. text ≡ word ++ rest)
  pub complete : (after : List ℕ) → text ≡ word ++ after → (r ≡ Some tt) × (rest ≡ after)

-- text as a whole is the text of what is read, or of nothing
pub record Whole {X : Type 0} (line : X → List ℕ) (Short : X → Type 0) (text : List ℕ) (r : Option X) : Type 0 where
  pub sound : IfSome r (λ x. Short x × (text ≡ line x))
  pub complete : (x : X) → Short x → text ≡ line x → r ≡ Some x

-- from text to rest the text of x is read, or nothing; there is only one such x and rest
pub record Reads {X : Type 0} (line : X → List ℕ → List ℕ) (Short : X → Type 0) (text : List ℕ) (r : Option X) (rest : List ℕ) : Type 0 where
  pub sound : IfSome r (λ x. Short x × (text ≡ line x rest))
  pub complete : (x : X) (after : List ℕ) → Short x → text ≡ line x after → (r ≡ Some x) × (rest ≡ after)

-- an operation behind its destinations
abbrev pub call_of : WrittenOperation → List ℕ
call_of w = call_text w.opcode w.sources w.guard

pub record ShortCall (w : WrittenOperation) : Type 0 where
  pub sources : ShortSources w.sources
  pub guard : Short (predicate_number w.guard)

-- and behind the first of them
abbrev pub behind_first : UpToTwo WrittenRegister → List ℕ → List ℕ
behind_first up_to.Zero rest = rest
behind_first (up_to.One d) rest = codes " = " ++ rest
behind_first (up_to.Two d e) rest = codes ", " ++ (name_text e ++ (codes " = " ++ rest))

abbrev pub behind_text : WrittenOperation → List ℕ
behind_text w = behind_first w.destinations (call_of w)

abbrev pub FirstIs : WrittenRegister → UpToTwo WrittenRegister → Type 0
FirstIs x up_to.Zero = ⊥
FirstIs x (up_to.One d) = d ≡ x
FirstIs x (up_to.Two d e) = (d ≡ x) × ShortName e

-- an exit behind `if`
abbrev pub branch_text : WrittenExit → List ℕ
branch_text exit.Halt = []
branch_text exit.Next = []
branch_text (exit.Goto t) = []
branch_text (exit.If p t) = codes " " ++ (predicate_name_text p ++ (codes " goto " ++ decimal t))
branch_text (exit.Loop t) = []

abbrev pub ShortBranch : WrittenExit → Type 0
ShortBranch exit.Halt = ⊥
ShortBranch exit.Next = ⊥
ShortBranch (exit.Goto t) = ⊥
ShortBranch (exit.If p t) = Short (predicate_number p) × Short t
ShortBranch (exit.Loop t) = ⊥

-- an exit behind a space
abbrev pub exit_behind : WrittenExit → List ℕ
exit_behind x = codes " " ++ exit_text x

-- a number behind a space
abbrev pub target_text : ℕ → List ℕ
target_text n = codes " " ++ decimal n

-- a line that is an operation
abbrev pub ShortPlaced : ProgramLine → Type 0
ShortPlaced (line.Block n) = ⊥
ShortPlaced (line.Operation p w) = ShortPosition p × ShortOperation w
ShortPlaced (line.Exit x) = ⊥

-- bounds behind a space
abbrev pub spaced_bounds : WrittenBounds → List ℕ
spaced_bounds b = codes " " ++ bounds_text b

-- a line of the description behind `slot`
abbrev pub slot_behind : DescriptionLine → List ℕ
slot_behind (described.Slot n c) = codes " " ++ (decimal n ++ (codes " " ++ classes_text c))
slot_behind (described.Integer b) = []
slot_behind (described.Load b) = []
slot_behind (described.Compare b) = []

abbrev pub ShortSlot : DescriptionLine → Type 0
ShortSlot (described.Slot n c) = ShortDescription (described.Slot n c)
ShortSlot (described.Integer b) = ⊥
ShortSlot (described.Load b) = ⊥
ShortSlot (described.Compare b) = ⊥

abbrev pub bounds_of : Latency → WrittenBounds → DescriptionLine
bounds_of latency.Integer b = described.Integer b
bounds_of latency.Load b = described.Load b
bounds_of latency.Compare b = described.Compare b
