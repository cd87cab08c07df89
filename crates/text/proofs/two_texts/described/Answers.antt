use Rattle.std.proofs.Common.{refl}
use Rattle.text.specs.Views.{described_of}
use Rattle.text.proofs.Loads.{machine_told}
use Rattle.text.proofs.two_texts.described.Goals as goal

pub returns : goal.returns
returns c = machine_told c.args.text.now (described_of c.take_lines.new.reading) c.finished.result c.ok_or.result _ c.in_ok-take_lines.ensures c.finished.ensures c.ok_or.ensures.value refl refl
