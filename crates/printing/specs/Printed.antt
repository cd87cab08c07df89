-- Printed blocks, and what is read of them. Assumes nothing.
use Rattle.std.specs.Prelude.{◌≡◌, ℕ, ◌<◌, true, List}
use Rattle.std.specs.Option.{option_map}
use Rattle.operations.specs.Texts.{operation_text}
use Rattle.blocks.specs.declared.position.Entry.{Entry}
use Rattle.blocks.specs.Model.{Body}
use Rattle.blocks.specs.Calls.{State, body_at}
use Rattle.printing.specs.declared.writing.Contents.{Contents}
use Rattle.lines.specs.Lines.{position_text}
use Rattle.lines.specs.Raw.{literals_held}
use Rattle.text.specs.Loads.{Programs}
use Rattle.printing.specs.Written.{written_sources, written_position}
use Rattle.printing.specs.Sets.{block_text, set_text, alone}

-- what stands in a block
abbrev pub contents_of : Contents → Body
contents_of c = record { entries = c.entries.now; exit = c.exit }

-- the line of an operation
abbrev pub entry_text : Entry → List ℕ
entry_text e = position_text (option_map written_position e.position) (operation_text e.operation)

-- 32 bits hold the literals of the operation
abbrev pub Held : Entry → Type 0
Held e = literals_held (written_sources e.operation.form) ≡ true

-- the text is that of block n, and that block is read of it
pub record BlockPrinted (s : State) (n : ℕ) (t : List ℕ) : Type 0 where
  pub there : n < 16
  pub text : t ≡ block_text n (body_at s n)
  pub back : Programs t s.description (alone s.description n (body_at s n))

-- the text is that of all blocks, and all of them are read of it
pub record SetPrinted (s : State) (t : List ℕ) : Type 0 where
  pub text : t ≡ set_text s
  pub back : Programs t s.description s
