-- What is handed in names the registers and blocks that the line means. Assumes nothing.
use Rattle.std.proofs.Common.{◌≡◌, ℕ, ◌++◌, refl, ap₂, arith}
use Rattle.registers.proofs.Meant.{number_handed}
use Rattle.registers.specs.declared.banked.Banked.{Banked}
use Rattle.registers.specs.Names.{named, raw_name, register_of}
use Rattle.registers.specs.declared.banked.Banked.TheVariants as banked
use Rattle.lines.specs.declared.written.WrittenRegister.{WrittenRegister}
use Rattle.lines.specs.declared.written.WrittenRegister.TheVariants as register
use Rattle.operations.specs.declared.raw.UpToTwo.{UpToTwo}
use Rattle.operations.specs.declared.raw.UpToTwo.TheVariants as up_to
use Rattle.lines.specs.declared.written.WrittenOperand.{WrittenOperand}
use Rattle.lines.specs.declared.written.WrittenOperand.TheVariants as operand
use Rattle.lines.specs.declared.written.WrittenSources.{WrittenSources}
use Rattle.lines.specs.declared.written.WrittenSources.TheVariants.{One, Two}
use Rattle.lines.specs.declared.written.WrittenOperation.{WrittenOperation}
use Rattle.lines.specs.Raw.{raw_register, raw_destinations, raw_operand, raw_sources, raw_operation}
use Rattle.lines.specs.Meant.{register_meant, operand_meant, sources_meant, destinations_meant, registers_meant, operand_named, sources_named, destinations_named, registers_named}

name_kept : {bits : ℕ} (x : Banked ℕ bits) → named (raw_name x) ≡ named x
name_kept (banked.Static n) = simp (number_handed n 32 (omega arith))
name_kept (banked.Rotating n) = simp (number_handed n 32 (omega arith))

pub register_kept : (x : WrittenRegister) → register_of (raw_register x) ≡ register_meant x
register_kept (register.General g) = simp (name_kept g)
register_kept (register.Predicate p) = simp (name_kept p)

operand_kept : (a : WrittenOperand) → operand_named (raw_operand a) ≡ operand_meant a
operand_kept (operand.Register x) = simp (register_kept x)
operand_kept (operand.Literal z) = refl

sources_kept : (s : WrittenSources) → sources_named (raw_sources s) ≡ sources_meant s
sources_kept (One a) = operand_kept a
sources_kept (Two a b) = ap₂ (λ x y. x ++ y) (operand_kept a) (operand_kept b)

destinations_kept : (d : UpToTwo WrittenRegister) → destinations_named (raw_destinations d) ≡ destinations_meant d
destinations_kept up_to.Zero = refl
destinations_kept (up_to.One d) = simp (register_kept d)
destinations_kept (up_to.Two d e) = simp (register_kept d, register_kept e)

pub registers_kept : (w : WrittenOperation) → registers_named (raw_operation w) ≡ registers_meant w
registers_kept w = simp (name_kept w.guard, destinations_kept w.destinations, sources_kept w.sources)
