use Rattle.lines.specs.Written.{opcode_text}
use Rattle.lines.proofs.Beginnings.{worded, worded_sound, the_same}
use Rattle.lines.proofs.OpcodeTexts.{opcodes, tabled}
use Rattle.lines.proofs.opcode.opcode.Goals as goal

pub returns : goal.returns
returns c = record {
  sound = record {
    short = tt;
    whole = worded_sound opcode_text opcodes _ _ _ c.in_ok-opcode.ensures;
    ends = (c.in_ok-after_word.field-0.now, c.in_ok-after_word.ensures);
  };
  complete = λ o rest h. the_same (worded opcode_text opcodes c.args.text.now) _ o _ rest c.in_ok-opcode.ensures (tabled _ o rest c.in_default.ensures h);
}
