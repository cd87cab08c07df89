use Rattle.std.proofs.Common.{◌≡◌, Some, sym, ◌∙◌, rules}
use Rattle.lines.specs.declared.mark.Mark.TheVariants as mark
use Rattle.lines.specs.declared.written.ProgramLine.TheVariants as line
use Rattle.lines.proofs.Founds.{mapped}
use Rattle.lines.proofs.Sayings.{none_some}
use Rattle.lines.proofs.Worded.{line_placed, line_block, line_exit}
use Rattle.lines.proofs.program.said.Goals as goal
use Rattle.lines.proofs.program.said.Goals.{in_default-via-in-Some+in_default, in_default-via-in_default}

pub returns-in-Some-Block : goal.returns-in-Some-Block
returns-in-Some-Block c = rw (mapped line.Block c.target.result c.map.result (search rules)) (line_block _ _ _ (rw c.in-Some-Block.field-0-is at c.in-Some-Block.ensures) c.target.ensures)

pub returns-in-Some-Exit : goal.returns-in-Some-Exit
returns-in-Some-Exit c = rw (mapped line.Exit c.exit_line.result c.map-in-Some-Exit.result (search rules)) (line_exit _ _ _ (rw c.in-Some-Exit.field-0-is at c.in-Some-Exit.ensures) c.exit_line.ensures)

pub returns-in_default : goal.returns-in_default
returns-in_default c =
    let no_block : c.expect.result ≡ Some mark.Block → ⊥ = elim c.in_default.branch [ in_default-via-in-Some+in_default w ↦ search rules | in_default-via-in_default w ↦ λ e. none_some mark.Block (sym w.in_default.is ∙ e) ] in
    let no_exit : c.expect.result ≡ Some mark.Exit → ⊥ = elim c.in_default.branch [ in_default-via-in-Some+in_default w ↦ search rules | in_default-via-in_default w ↦ λ e. none_some mark.Exit (sym w.in_default.is ∙ e) ] in
    line_placed _ _ _ _ c.expect.ensures no_block no_exit c.placed.ensures
