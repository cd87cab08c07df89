-- The tests of equality tell equality. Assumes nothing.
use Rattle.std.proofs.Common.{◌≡◌, ℕ, true, false, refl, ap, arith, eq-eqb, eqb-true}
use Rattle.registers.specs.declared.register.Register.{Register}
use Rattle.registers.specs.declared.banked.Banked.{Banked}
use Rattle.registers.specs.declared.banked.Banked.TheVariants as banked
use Rattle.registers.specs.declared.register.Register as register
use Rattle.registers.specs.declared.register.Place as place
use Rattle.registers.specs.declared.register.Place.{Place}
use Rattle.registers.specs.Registers.{RegisterNumber, same, same_register, same_place}
use Rattle.registers.proofs.Numbered.{numbers_agree}

no_test : {A : Type 0} → false ≡ true → A
no_test e = let z : ◌≡◌ {A = ℕ} 0 1 = cc in absurd (omega arith)

pub banked_same : {bits : ℕ} (x y : Banked RegisterNumber bits) → same x y ≡ true → x ≡ y
banked_same (banked.Static m) (banked.Static n) e = ap banked.Static (numbers_agree m n (eqb-true _ _ e))
banked_same (banked.Static m) (banked.Rotating n) e = no_test e
banked_same (banked.Rotating m) (banked.Static n) e = no_test e
banked_same (banked.Rotating m) (banked.Rotating n) e = ap banked.Rotating (numbers_agree m n (eqb-true _ _ e))

pub register_same : (x y : Register) → same_register x y ≡ true → x ≡ y
register_same (register.TheVariants.General g) (register.TheVariants.General h) e = ap register.TheVariants.General (banked_same g h e)
register_same (register.TheVariants.General g) (register.TheVariants.Predicate q) e = no_test e
register_same (register.TheVariants.Predicate p) (register.TheVariants.General h) e = no_test e
register_same (register.TheVariants.Predicate p) (register.TheVariants.Predicate q) e = ap register.TheVariants.Predicate (banked_same p q e)

pub place_same : (p q : Place) → same_place p q ≡ true → p ≡ q
place_same (place.TheVariants.Register x) (place.TheVariants.Register y) e = ap place.TheVariants.Register (register_same x y e)
place_same (place.TheVariants.Register x) place.TheVariants.Memory e = no_test e
place_same place.TheVariants.Memory (place.TheVariants.Register y) e = no_test e
place_same place.TheVariants.Memory place.TheVariants.Memory e = refl

pub banked_itself : {bits : ℕ} (x : Banked RegisterNumber bits) → same x x ≡ true
banked_itself (banked.Static n) = eq-eqb n.number n.number refl
banked_itself (banked.Rotating n) = eq-eqb n.number n.number refl

pub register_itself : (x : Register) → same_register x x ≡ true
register_itself (register.TheVariants.General g) = banked_itself g
register_itself (register.TheVariants.Predicate p) = banked_itself p

pub place_itself : (p : Place) → same_place p p ≡ true
place_itself (place.TheVariants.Register x) = register_itself x
place_itself place.TheVariants.Memory = refl
