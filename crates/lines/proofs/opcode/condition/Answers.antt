use Rattle.lines.proofs.Beginnings.{table_begins}
use Rattle.lines.proofs.OpcodeTexts.{condition_word, conditions, each_condition}
use Rattle.lines.proofs.opcode.condition.Goals as goal

pub returns : goal.returns
returns c = table_begins condition_word conditions each_condition _ _ c.begins.ensures
