-- What the integer opcodes give, as numbers. Assumes nothing.
use Rattle.std.specs.Prelude.{ℕ, ◌+◌, ◌-◌, ◌*◌, ◌/◌, ◌%◌, ◌^◌, min, max, ℤ, pos, negsuc, ◌-ℤ◌, bit_and, bit_or, bit_xor, unsigned_abs}
use Rattle.std.proofs.Common.{to_z}
use Rattle.std.specs.Int.{int_min, int_max, w32}
use Rattle.opcodes.specs.declared.integer.BinaryOpcode.{BinaryOpcode}
use Rattle.opcodes.specs.declared.integer.BinaryOpcode.TheVariants.{Add, Sub, And, Or, Xor, Shl, Shr, Shra, Min, Max, Minl, Maxl}
use Rattle.opcodes.specs.declared.integer.UnaryOpcode.{UnaryOpcode}
use Rattle.opcodes.specs.declared.integer.UnaryOpcode.TheVariants.{Abs, Move}

-- the signed value of a word: the word itself below 2^31, and 2^32 less from there on
abbrev pub signed : ℕ → ℤ
signed a = to_z w32 a

-- an integer modulo 2^32; `negsuc n` is -1 - n
abbrev pub word : ℤ → ℕ
word (pos n) = n % 2 ^ 32
word (negsuc n) = 2 ^ 32 - 1 - n % 2 ^ 32

-- an integer over a positive number, rounded down
abbrev pub over : ℤ → ℕ → ℤ
over (pos n) k = pos (n / k)
over (negsuc n) k = negsuc (n / k)

abbrev pub binary_result : BinaryOpcode → ℕ → ℕ → ℕ
binary_result Add a b = (a + b) % 2 ^ 32
binary_result Sub a b = word (pos a -ℤ pos b)
binary_result And a b = bit_and a b
binary_result Or a b = bit_or a b
binary_result Xor a b = bit_xor a b
binary_result Shl a b = (a * 2 ^ b) % 2 ^ 32
binary_result Shr a b = a / 2 ^ b
binary_result Shra a b = word (over (signed a) (2 ^ b))
binary_result Min a b = word (int_min (signed a) (signed b))
binary_result Max a b = word (int_max (signed a) (signed b))
binary_result Minl a b = min a b
binary_result Maxl a b = max a b

abbrev pub unary_result : UnaryOpcode → ℕ → ℕ
unary_result Abs a = unsigned_abs (signed a) % 2 ^ 32
unary_result Move a = a
