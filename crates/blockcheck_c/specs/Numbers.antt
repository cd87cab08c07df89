-- Verdicts as numbers. Assumes nothing.
use Rattle.std.specs.Prelude.{ℕ, ◌+◌, List, [], ◌∷◌, length}
use Rattle.std.specs.List.{flat_map}
use Rattle.registers.specs.declared.banked.Banked.{Banked}
use Rattle.registers.specs.declared.banked.Banked.TheVariants as banked
use Rattle.registers.specs.Registers.{RegisterNumber, General, Predicate}
use Rattle.registers.specs.declared.register.Register.{Register}
use Rattle.registers.specs.declared.register.Register.TheVariants as register
use Rattle.registers.specs.declared.register.Place.{Place}
use Rattle.registers.specs.declared.register.Place.TheVariants as place
use Rattle.operations.specs.declared.refusal.Dependence.{Dependence}
use Rattle.operations.specs.declared.refusal.Dependence.TheVariants.{Flow, Anti, Output, Memory}
use Rattle.verdicts.specs.declared.verdict.Standing.{Standing}
use Rattle.verdicts.specs.declared.verdict.Standing.TheVariants.{Kept, Violated, Unplaced}
use Rattle.verdicts.specs.declared.verdict.BlockVerdict.{BlockVerdict}

-- the number of a register whose kind has the numbers from `first` on
abbrev pub bank_number : {bits : ℕ} → ℕ → Banked RegisterNumber bits → ℕ
bank_number first (banked.Static n) = first + n.number
bank_number first (banked.Rotating n) = first + 32 + n.number

abbrev pub general_number : General → ℕ
general_number = bank_number 0

abbrev pub predicate_number : Predicate → ℕ
predicate_number = bank_number 64

abbrev pub register_number : Register → ℕ
register_number (register.General g) = general_number g
register_number (register.Predicate p) = predicate_number p

abbrev pub place_number : Place → ℕ
place_number (place.Register x) = register_number x
place_number place.Memory = 128

abbrev pub kind_number : Dependence → ℕ
kind_number Flow = 1
kind_number Anti = 2
kind_number Output = 3
kind_number Memory = 4

-- kind, place, i, j and least cycle; 129 is no place
abbrev pub standing_row : Standing → List ℕ
standing_row Kept = 0 ∷ 129 ∷ 0 ∷ 0 ∷ 0 ∷ []
standing_row (Violated v) = kind_number v.dependence ∷ place_number v.place ∷ v.first ∷ v.second ∷ v.least ∷ []
standing_row (Unplaced i) = 5 ∷ 129 ∷ i ∷ 0 ∷ 0 ∷ []

abbrev pub row_of : BlockVerdict → List ℕ
row_of v = v.block ∷ standing_row v.standing

-- how many verdicts, and then each
abbrev pub numbers_of : List BlockVerdict → List ℕ
numbers_of vs = length vs ∷ flat_map row_of vs
