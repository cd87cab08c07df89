-- That the test of equality tells whether two are one. Assumes nothing.
use Rattle.std.specs.Prelude.{◌≡◌, ℕ, Decides, ◌==◌}
use Rattle.registers.specs.declared.register.Register.{Register}
use Rattle.registers.specs.declared.banked.Banked.{Banked}
use Rattle.registers.specs.declared.number.NumberBelow.{NumberBelow}
use Rattle.registers.specs.declared.register.Place.{Place}
use Rattle.registers.specs.Registers.{RegisterNumber, same, same_register, same_place}

abbrev pub NumbersTold : Type 0
NumbersTold = (limit : ℕ) (m n : NumberBelow limit) → Decides (m.number == n.number) (m ≡ n)

abbrev pub BankedTold : Type 0
BankedTold = (bits : ℕ) (x y : Banked RegisterNumber bits) → Decides (same x y) (x ≡ y)

abbrev pub RegistersTold : Type 0
RegistersTold = (x y : Register) → Decides (same_register x y) (x ≡ y)

abbrev pub PlacesTold : Type 0
PlacesTold = (p q : Place) → Decides (same_place p q) (p ≡ q)
