use Rattle.std.proofs.Common.{◌≡◌, subst, eq-eqb, eqb-true, ap, true}
use Rattle.registers.specs.Registers.{same, same_register, same_place}
use Rattle.registers.proofs.Numbered.{numbers_agree}
use Rattle.registers.proofs.Equal.{banked_same, banked_itself, register_same, register_itself, place_same, place_itself}
use Rattle.registers.proofs.equality.equality_tells.Goals as goal

pub returns : goal.returns
returns c = record {
  numbers = λ limit m n. (λ t. numbers_agree m n (eqb-true _ _ t), λ e. eq-eqb _ _ (ap (λ x. x.number) e));
  banked = λ bits x y. (banked_same x y, λ e. subst (λ z. same x z ≡ true) e (banked_itself x));
  registers = λ x y. (register_same x y, λ e. subst (λ z. same_register x z ≡ true) e (register_itself x));
  places = λ p q. (place_same p q, λ e. subst (λ z. same_place p z ≡ true) e (place_itself p));
}
