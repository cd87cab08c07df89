-- The lines of the two texts. Assumes nothing.
use Rattle.std.specs.Prelude.{◌≡◌, ℕ, true, cond, ◌||◌, List, [], ◌++◌, Some, None, codes, decimal, Option}
use Rattle.lines.specs.declared.written.WrittenExit.{WrittenExit}
use Rattle.lines.specs.declared.written.WrittenExit.TheVariants.{Halt, Next, Goto, If, Loop}
use Rattle.lines.specs.declared.written.WrittenPosition.{WrittenPosition}
use Rattle.lines.specs.declared.written.WrittenBounds.{WrittenBounds}
use Rattle.lines.specs.declared.written.Classes.{Classes}
use Rattle.lines.specs.declared.written.ProgramLine.{ProgramLine}
use Rattle.lines.specs.declared.written.ProgramLine.TheVariants as line
use Rattle.lines.specs.declared.written.DescriptionLine.{DescriptionLine}
use Rattle.lines.specs.declared.written.DescriptionLine.TheVariants.{Slot, Integer, Load, Compare}
use Rattle.lines.specs.Numbers.{Short}
use Rattle.lines.specs.Written.{predicate_name_text, predicate_number, written_text, ShortOperation}

-- the cycle and the slot, and then rest
abbrev pub position_text : Option WrittenPosition → List ℕ → List ℕ
position_text None rest = codes "- " ++ rest
position_text (Some p) rest = decimal p.cycle ++ (codes ":" ++ (decimal p.slot ++ (codes " " ++ rest)))

abbrev pub exit_text : WrittenExit → List ℕ
exit_text Halt = codes "halt"
exit_text Next = codes "next"
exit_text (Goto t) = codes "goto " ++ decimal t
exit_text (If p t) = codes "if " ++ (predicate_name_text p ++ (codes " goto " ++ decimal t))
exit_text (Loop t) = codes "loop " ++ decimal t

abbrev pub program_line_text : ProgramLine → List ℕ
program_line_text (line.Block n) = codes "block " ++ decimal n
program_line_text (line.Operation p w) = position_text p (written_text w)
program_line_text (line.Exit x) = codes "exit " ++ exit_text x

abbrev pub classes_text : Classes → List ℕ
classes_text c = cond c.integer (codes "I") [] ++ (cond c.memory (codes "M") [] ++ cond c.compare (codes "C") [])

abbrev pub bounds_text : WrittenBounds → List ℕ
bounds_text b = decimal b.shortest ++ (codes " " ++ decimal b.longest)

abbrev pub description_line_text : DescriptionLine → List ℕ
description_line_text (Slot n c) = codes "slot " ++ (decimal n ++ (codes " " ++ classes_text c))
description_line_text (Integer b) = codes "integer " ++ bounds_text b
description_line_text (Load b) = codes "load " ++ bounds_text b
description_line_text (Compare b) = codes "compare " ++ bounds_text b

abbrev pub ShortPosition : Option WrittenPosition → Type 0
ShortPosition None = Unit {0}
ShortPosition (Some p) = Short p.cycle × Short p.slot

abbrev pub ShortExit : WrittenExit → Type 0
ShortExit Halt = Unit {0}
ShortExit Next = Unit {0}
ShortExit (Goto t) = Short t
ShortExit (If p t) = Short (predicate_number p) × Short t
ShortExit (Loop t) = Short t

abbrev pub ShortProgram : ProgramLine → Type 0
ShortProgram (line.Block n) = Short n
ShortProgram (line.Operation p w) = ShortPosition p × ShortOperation w
ShortProgram (line.Exit x) = ShortExit x

abbrev pub ShortBounds : WrittenBounds → Type 0
ShortBounds b = Short b.shortest × Short b.longest

-- one class at least
abbrev pub HasClass : Classes → Type 0
HasClass c = (c.integer || (c.memory || c.compare)) ≡ true

abbrev pub ShortDescription : DescriptionLine → Type 0
ShortDescription (Slot n c) = Short n × HasClass c
ShortDescription (Integer b) = ShortBounds b
ShortDescription (Load b) = ShortBounds b
ShortDescription (Compare b) = ShortBounds b

-- a line of the program, and one of the description, is the text of what it says
pub record IsProgramLine (line : List ℕ) (w : ProgramLine) : Type 0 where
  pub short : ShortProgram w
  pub whole : line ≡ program_line_text w

pub record IsDescriptionLine (line : List ℕ) (w : DescriptionLine) : Type 0 where
  pub short : ShortDescription w
  pub whole : line ≡ description_line_text w
