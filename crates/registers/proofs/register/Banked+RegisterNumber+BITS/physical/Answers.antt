use Rattle.std.proofs.Common.{sym, ap, ◌∙◌}
use Rattle.registers.specs.Registers.{rotated, physical}
use Rattle.registers.specs.declared.banked.Banked.TheVariants.{Rotating}
use Rattle.registers.proofs.Numbered.{numbers_agree}
use Rattle.registers.proofs.register.Banked+RegisterNumber+BITS.physical.Goals as goal

pub returns-in-Rotating : goal.returns-in-Rotating
returns-in-Rotating g c =
    ap Rotating (numbers_agree c.rotated.result (rotated c.in-Rotating.n c.args.rrb) c.rotated.ensures)
    ∙ sym (ap (physical c.args.rrb) c.in-Rotating.is)
