-- Block numbers are equal where their numbers are. Assumes nothing.
use Rattle.std.proofs.Common.{◌≡◌, ℕ, ◌<◌, Some, Option, lt-ltb}
use Rattle.registers.proofs.Numbered.{number_there}
use Rattle.blocks.specs.Exits.{BlockNumber, block_numbered}

pub block_there : (n : ℕ) (p : n < 16) → ◌≡◌ {A = Option BlockNumber} (Some (record { number = n; below = p })) (block_numbered n)
block_there n p = number_there n p (lt-ltb n 16 p)
