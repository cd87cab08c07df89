-- The registers that names from outside mean. Assumes nothing.
use Rattle.std.specs.Option.{option_map}
use Rattle.std.specs.Prelude.{ℕ, cond, nat_lt, Option}
use Rattle.registers.specs.declared.banked.Banked.{Banked}
use Rattle.registers.specs.declared.banked.Banked.TheVariants as banked
use Rattle.registers.specs.declared.register.Register as register
use Rattle.registers.specs.declared.register.Register.{Register}
use Rattle.registers.specs.declared.names.RegisterName as register_name
use Rattle.registers.specs.declared.names.RegisterName.{RegisterName}
use Rattle.registers.specs.Registers.{numbered, RegisterNumber, General, Predicate}

abbrev pub GeneralName : Type 0
GeneralName = Banked ℕ 32

abbrev pub PredicateName : Type 0
PredicateName = Banked ℕ 1

-- the register of that name
abbrev pub named : {bits : ℕ} → Banked ℕ bits → Option (Banked RegisterNumber bits)
named (banked.Static n) = option_map banked.Static (numbered n)
named (banked.Rotating n) = option_map banked.Rotating (numbered n)

-- a number as it is handed in: 255, which no register has, stands for every one above
abbrev pub handed : ℕ → ℕ
handed n = cond (nat_lt n 255) n 255

-- a name with any number as it is handed in
abbrev pub raw_name : {bits : ℕ} → Banked ℕ bits → Banked ℕ bits
raw_name (banked.Static n) = banked.Static (handed n)
raw_name (banked.Rotating n) = banked.Rotating (handed n)

abbrev pub general_of : GeneralName → Option General
general_of = named

abbrev pub predicate_of : PredicateName → Option Predicate
predicate_of = named

abbrev pub register_of : RegisterName → Option Register
register_of (register_name.TheVariants.General g) = option_map register.TheVariants.General (general_of g)
register_of (register_name.TheVariants.Predicate p) = option_map register.TheVariants.Predicate (predicate_of p)
