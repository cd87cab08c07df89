use Rattle.std.proofs.Common.{rules, ◌≡◌, ap, ◌∙◌}
use Rattle.registers.specs.Registers.{numbered}
use Rattle.registers.specs.Names.{handed}
use Rattle.registers.proofs.Meant.{number_handed}
use Rattle.registers.proofs.names.handed.Goals as goal

pub returns-clause-meant : goal.returns-clause-meant
returns-clause-meant c limit l =
    let value : c.unwrap_or.result ≡ handed c.args.number = search rules in
    ap (λ n. numbered {limit = limit} n) value ∙ number_handed c.args.number limit l
