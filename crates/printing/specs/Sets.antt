-- Blocks as lines of a program. Assumes nothing.
use Rattle.std.specs.Prelude.{ℕ, ◌+◌, Bool, true, false, cond, not, ◌||◌, List, [], ◌∷◌, ◌++◌, map, length, nat_lt, slice_set}
use Rattle.std.specs.List.{flat_map}
use Rattle.blocks.specs.declared.description.Description.{Description}
use Rattle.blocks.specs.declared.exit.Exit.{Exit}
use Rattle.blocks.specs.declared.exit.Exit.TheVariants as exit
use Rattle.blocks.specs.Model.{Body}
use Rattle.blocks.specs.Calls.{State, fresh}
use Rattle.lines.specs.declared.written.ProgramLine.{ProgramLine}
use Rattle.lines.specs.declared.written.ProgramLine.TheVariants as line
use Rattle.lines.specs.Lines.{program_line_text}
use Rattle.text.specs.Texts.{ended}
use Rattle.printing.specs.Written.{written_exit, entry_line}

-- a block: its number, its operations, its exit
abbrev pub block_lines : ℕ → Body → List ProgramLine
block_lines n b = line.Block n ∷ (map entry_line b.entries ++ line.Exit (written_exit b.exit) ∷ [])

abbrev pub halts : Exit → Bool
halts exit.Halt = true
halts exit.Next = false
halts (exit.Goto t) = false
halts (exit.If p t) = false
halts (exit.Loop t) = false

-- a block that has an operation, or an exit other than halt
abbrev pub used : Body → Bool
used b = nat_lt 0 (length b.entries) || not (halts b.exit)

-- the blocks that are used, ascending, the first of them being block n
abbrev pub lines_from : ℕ → List Body → List ProgramLine
lines_from n [] = []
lines_from n (b ∷ bs) = cond (used b) (block_lines n b) [] ++ lines_from (n + 1) bs

abbrev pub line_ended : ProgramLine → List ℕ
line_ended w = ended (program_line_text w)

abbrev pub lines_text : List ProgramLine → List ℕ
lines_text ws = flat_map line_ended ws

abbrev pub block_text : ℕ → Body → List ℕ
block_text n b = lines_text (block_lines n b)

abbrev pub set_text : State → List ℕ
set_text s = lines_text (lines_from 0 s.bodies)

-- that block, and all others empty
abbrev pub alone : Description → ℕ → Body → State
alone d n b = record { description = d; bodies = slice_set (fresh d).bodies n b }
