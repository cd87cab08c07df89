-- What is loaded of the two texts, and which line is at fault. Assumes nothing.
use Rattle.std.specs.Prelude.{◌≡◌, ℕ, ◌<◌, ◌≤◌, List, [], length, Ok, Err}
use Rattle.operations.specs.declared.refusal.Refusal.{Refusal}
use Rattle.operations.specs.declared.refusal.Refusal.TheVariants.{Unreadable, BeyondLimit}
use Rattle.blocks.specs.declared.description.Description.{Description}
use Rattle.blocks.specs.Calls.{State}
use Rattle.lines.specs.Lines.{IsDescriptionLine, IsProgramLine}
use Rattle.text.specs.declared.stage.Stage.{Stage}
use Rattle.text.specs.Texts.{lines_of, Taken}
use Rattle.text.specs.Describing.{Described, nothing, description_step, Complete, Incomplete}
use Rattle.text.specs.Programs.{start, program_step}

abbrev pub FitsText : List ℕ → Type 0
FitsText t = length t ≤ 65535

-- the text describes the machine x
pub record Describes (text : List ℕ) (x : Description) : Type 0 where
  pub read : Described
  pub lines : Taken IsDescriptionLine description_step nothing (lines_of text) (Ok read)
  pub whole : Complete read x

-- the text is a program for the machine x, and s is its blocks
pub record Programs (text : List ℕ) (x : Description) (s : State) : Type 0 where
  pub stage : Stage
  pub lines : Taken IsProgramLine program_step (start x) (lines_of text) (Ok (record { state = s; stage = stage }))

-- both texts are short enough, and the first describes a machine: a set of blocks is made
pub record SetMade (description program : List ℕ) : Type 0 where
  pub short : FitsText description × FitsText program
  pub machine : Description
  pub described : Describes description machine

pub record Loaded (description program : List ℕ) (s : State) : Type 0 where
  pub short : FitsText description × FitsText program
  pub described : Describes description s.description
  pub read : Programs program s.description s

-- why the two texts are refused, and the line at fault: empty where a text is too long and where a line is missing
pub data Refused (description program : List ℕ) (e : Refusal) (line : List ℕ) : Type 0 where
  long_description : 65535 < length description → e ≡ BeyondLimit → line ≡ [] → Refused description program e line
  long_program : FitsText description → 65535 < length program → e ≡ BeyondLimit → line ≡ [] → Refused description program e line
  in_description : FitsText description → FitsText program → Taken IsDescriptionLine description_step nothing (lines_of description) (Err (e, line)) → Refused description program e line
  missing : FitsText description → FitsText program → (d : Described) → Taken IsDescriptionLine description_step nothing (lines_of description) (Ok d) → Incomplete d → e ≡ Unreadable → line ≡ [] → Refused description program e line
  in_program : FitsText description → FitsText program → (x : Description) → Describes description x → Taken IsProgramLine program_step (start x) (lines_of program) (Err (e, line)) → Refused description program e line
