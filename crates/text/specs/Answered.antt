-- What is answered to the two texts. Assumes nothing.
use Rattle.std.specs.Prelude.{◌≡◌, ℕ, List, [], Ok, Err, Result}
use Rattle.operations.specs.declared.refusal.Refusal.{Refusal}
use Rattle.operations.specs.declared.refusal.Refusal.TheVariants.{Unreadable}
use Rattle.blocks.specs.declared.blocks.Blocks.{Blocks}
use Rattle.blocks.specs.Whole.{state_of}
use Rattle.lines.specs.Lines.{IsDescriptionLine}
use Rattle.text.specs.declared.fault.Fault.{Fault}
use Rattle.text.specs.declared.fault.Fault.TheVariants as fault
use Rattle.text.specs.Texts.{lines_of, Taken}
use Rattle.text.specs.Describing.{Described, nothing, description_step, Incomplete}
use Rattle.text.specs.Loads.{SetMade, Loaded, Refused}

-- the blocks of the two texts, or why there are none, with the line at fault; memory can be wanting only where a set of blocks is made
abbrev pub Answered : List ℕ → List ℕ → Result Blocks Fault → Type 0
Answered description program (Ok b) = Loaded description program (state_of b)
Answered description program (Err fault.Memory) = SetMade description program
Answered description program (Err (fault.Refused r)) = Refused description program r.refusal r.line.now

-- why a text describes no machine, and the line at fault
pub data NotDescribed (text : List ℕ) (e : Refusal) (line : List ℕ) : Type 0 where
  line_refused : Taken IsDescriptionLine description_step nothing (lines_of text) (Err (e, line)) → NotDescribed text e line
  line_missing : (d : Described) → Taken IsDescriptionLine description_step nothing (lines_of text) (Ok d) → Incomplete d → e ≡ Unreadable → line ≡ [] → NotDescribed text e line
