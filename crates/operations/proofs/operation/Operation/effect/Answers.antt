use Rattle.std.proofs.Common.{◌≡◌, ◌∙◌, rules}
use Rattle.operations.specs.declared.effect.Effect.TheVariants as effect
use Rattle.operations.specs.Effects.{effect_of}
use Rattle.operations.proofs.Idle.{idle}
use Rattle.operations.proofs.operation.Operation.effect.Goals as goal

pub returns-in-Compare-clause-idle : goal.returns-in-Compare-clause-idle
returns-in-Compare-clause-idle c =
    let value : effect.Writes c.write-in-Compare.result c.write-in-Compare-2.result ≡ effect_of c.args.self.now.form c.args.guard c.args.first c.args.second = search rules in
    λ h. value ∙ idle c.args.self.now.form c.args.guard c.args.first c.args.second h
