-- The two runs written out. Assumes nothing.
use Rattle.std.proofs.Common.{ℕ, refl}
use Rattle.registers.specs.declared.register.Register.{Register}
use Rattle.registers.specs.declared.register.Place.TheVariants as place
use Rattle.runs.specs.Ends.{SameHistories}
use Rattle.runs.specs.Examples.{slow, SlowRun, QuickRun}

slow_same : (register_of : ℕ → Register) → SameHistories (slow register_of)
slow_same register_of (place.Register r) = refl
slow_same register_of place.Memory = refl

pub slow_run : SlowRun
slow_run register_of = record { same = slow_same register_of; reads = refl; leaves = refl; empty = refl }

pub quick_run : QuickRun
quick_run register_of = record { reads = refl; leaves = refl; empty = refl }
