-- Where a register is missing, and where the operands do not fit. Assumes nothing.
use Rattle.std.proofs.Common.{◌≡◌, ℕ, true, false, Some, None, Err, Option, refl, arith, rules}
use Rattle.operations.specs.declared.raw.RawOperation.{RawOperation}
use Rattle.operations.specs.declared.refusal.Refusal.{Refusal}
use Rattle.operations.specs.declared.refusal.Refusal.TheVariants.{NoSuch, WrongOperands}
use Rattle.operations.specs.declared.operation.Form.{Form}
use Rattle.operations.specs.Typing.{names_exist, typed_of, form_of}
use Rattle.registers.specs.Registers.{Predicate}
use Rattle.registers.specs.Names.{predicate_of}
use Rattle.std.proofs.lemmas.Bool.{false≢true}

pub missing : (q : RawOperation) → names_exist q ≡ false → typed_of q ≡ Err NoSuch
missing q h = search rules

pub unfit : (q : RawOperation) (e : Refusal) → names_exist q ≡ true → typed_of q ≡ Err e → e ≡ WrongOperands
unfit q e h k = by (predicate_of q.guard) refl (form_of q.opcode q.destinations q.sources) refl
  where
    by : (g : Option Predicate) → predicate_of q.guard ≡ g → (f : Option Form) → form_of q.opcode q.destinations q.sources ≡ f → e ≡ WrongOperands
    by None p f r = let z : false ≡ true = rw p at h in absurd (false≢true z)
    by (Some g) p None r = let z = rw (h, p, r) at k in cc
    by (Some g) p (Some f) r = let z = rw (h, p, r) at k in let y : ◌≡◌ {A = ℕ} 0 1 = cc in absurd (omega arith)
