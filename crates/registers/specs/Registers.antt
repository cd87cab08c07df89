-- Registers: their numbers, what the fixed ones read, which are places, and where the rotating ones are. Assumes nothing.
use Rattle.std.specs.Prelude.{◌≡◌, ℕ, ◌+◌, ◌%◌, Bool, true, false, cond, Decides, ◌&&◌, is_some, Some, None, Option, ◌==◌, nat_lt, refl}
use Rattle.std.proofs.Common.{arith, ltb-true}
use Rattle.registers.specs.declared.number.NumberBelow.{NumberBelow}
use Rattle.registers.specs.declared.banked.Banked.{Banked}
use Rattle.registers.specs.declared.banked.Banked.TheVariants as banked
use Rattle.registers.specs.declared.register.Register as register
use Rattle.registers.specs.declared.register.Register.{Register}
use Rattle.registers.specs.declared.register.Place.{Place}
use Rattle.registers.specs.declared.register.Place.TheVariants as place

abbrev pub RegisterNumber : Type 0
RegisterNumber = NumberBelow 32

-- a register of 32 bits, and one of one bit
abbrev pub General : Type 0
General = Banked RegisterNumber 32

abbrev pub Predicate : Type 0
Predicate = Banked RegisterNumber 1

abbrev pub below : {limit : ℕ} (n : ℕ) (b : Bool) → nat_lt n limit ≡ b → Option (NumberBelow limit)
below {limit} n true e = Some (record { number = n; below = ltb-true n limit e })
below n false e = None

-- the number n, where it is below the limit; so there is a register number for each n below 32
abbrev pub numbered : {limit : ℕ} → ℕ → Option (NumberBelow limit)
numbered {limit} n = below n (nat_lt n limit) refl

-- rotating register k, while rotating register 0 is the physical one `base`
abbrev pub rotated : RegisterNumber → RegisterNumber → RegisterNumber
rotated k base = record { number = (k.number + base.number) % 32; below = omega arith }

-- r0 reads 0
abbrev pub general_constant : General → Option ℕ
general_constant (banked.Static n) = cond (n.number == 0) (Some 0) None
general_constant (banked.Rotating n) = None

-- p0 reads 0, p1 reads 1
abbrev pub predicate_constant : Predicate → Option Bool
predicate_constant (banked.Static n) = cond (n.number == 0) (Some false) (cond (n.number == 1) (Some true) None)
predicate_constant (banked.Rotating n) = None

-- any register but r0, p0 and p1 is a place
abbrev pub general_place : General → Option Place
general_place (banked.Static n) = cond (n.number == 0) None (Some (place.Register (register.TheVariants.General (banked.Static n))))
general_place (banked.Rotating n) = Some (place.Register (register.TheVariants.General (banked.Rotating n)))

abbrev pub predicate_place : Predicate → Option Place
predicate_place (banked.Static n) = cond (nat_lt n.number 2) None (Some (place.Register (register.TheVariants.Predicate (banked.Static n))))
predicate_place (banked.Rotating n) = Some (place.Register (register.TheVariants.Predicate (banked.Rotating n)))

-- the register that holds it, while the base is rrb
abbrev pub physical : {bits : ℕ} → RegisterNumber → Banked RegisterNumber bits → Banked RegisterNumber bits
physical rrb (banked.Static n) = banked.Static n
physical rrb (banked.Rotating n) = banked.Rotating (rotated n rrb)

-- an answer that is this test, and tells whether a fact holds
abbrev pub Tells : Bool → Bool → Type 0 → Type 0
Tells test r P = (r ≡ test) × Decides r P

-- two of one kind that are alike, where their numbers are by such a test
abbrev pub alike : {N : Type 0} {bits : ℕ} → (N → N → Bool) → Banked N bits → Banked N bits → Bool
alike test (banked.Static m) (banked.Static n) = test m n
alike test (banked.Static m) (banked.Rotating n) = false
alike test (banked.Rotating m) (banked.Static n) = false
alike test (banked.Rotating m) (banked.Rotating n) = test m n

-- two registers of one kind that are one
abbrev pub same : {bits : ℕ} → Banked RegisterNumber bits → Banked RegisterNumber bits → Bool
same = alike (λ m n. m.number == n.number)

abbrev pub same_predicate : Predicate → Predicate → Bool
same_predicate = same

abbrev pub same_general : General → General → Bool
same_general = same

-- two predicates that are one place; p0 and p1 are none
abbrev pub one_place : Predicate → Predicate → Bool
one_place p q = is_some (predicate_place p) && same_predicate p q

abbrev pub same_register : Register → Register → Bool
same_register (register.TheVariants.General g) (register.TheVariants.General h) = same_general g h
same_register (register.TheVariants.General g) (register.TheVariants.Predicate q) = false
same_register (register.TheVariants.Predicate p) (register.TheVariants.General h) = false
same_register (register.TheVariants.Predicate p) (register.TheVariants.Predicate q) = same_predicate p q

abbrev pub same_place : Place → Place → Bool
same_place (place.Register x) (place.Register y) = same_register x y
same_place (place.Register x) place.Memory = false
same_place place.Memory (place.Register y) = false
same_place place.Memory place.Memory = true

abbrev pub is_place : Place → Option Place → Bool
is_place p None = false
is_place p (Some q) = same_place q p
