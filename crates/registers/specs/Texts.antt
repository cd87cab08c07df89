-- Registers and places as text. Assumes nothing.
use Rattle.std.specs.Prelude.{ℕ, List, ◌++◌, codes, decimal}
use Rattle.registers.specs.declared.register.Register.{Register}
use Rattle.registers.specs.declared.banked.Banked.TheVariants as banked
use Rattle.registers.specs.declared.register.Register as register
use Rattle.registers.specs.declared.register.Place as place
use Rattle.registers.specs.declared.register.Place.{Place}
use Rattle.registers.specs.Registers.{General, Predicate}

abbrev pub general_text : General → List ℕ
general_text (banked.Static n) = codes "r" ++ decimal n.number
general_text (banked.Rotating n) = codes "rr" ++ decimal n.number

abbrev pub predicate_text : Predicate → List ℕ
predicate_text (banked.Static n) = codes "p" ++ decimal n.number
predicate_text (banked.Rotating n) = codes "rp" ++ decimal n.number

abbrev pub register_text : Register → List ℕ
register_text (register.TheVariants.General g) = general_text g
register_text (register.TheVariants.Predicate p) = predicate_text p

abbrev pub place_text : Place → List ℕ
place_text (place.TheVariants.Register x) = register_text x
place_text place.TheVariants.Memory = codes "memory"
