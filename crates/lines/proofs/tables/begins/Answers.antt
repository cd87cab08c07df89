use Rattle.std.proofs.Common.{rules}
use Rattle.lines.proofs.Firsts.{found_first, tried}
use Rattle.lines.proofs.tables.begins.Goals as goal

pub returns : goal.returns
returns g c = found_first c.args.table.now c.args.text.now c.find_map.result (λ s. s.rest.now) c.find_map.ensures.runs c.iter.ensures.runs c.iter.ensures.rest (λ x q h k. (search rules, tried c.args.text.now x.now q (search rules)))
