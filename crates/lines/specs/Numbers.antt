-- Numbers as text. Assumes nothing.
use Rattle.std.specs.Prelude.{◌≡◌, ℕ, suc, ◌^◌, ◌<◌, cond, List, [], ◌∷◌, ◌++◌, ℤ, pos, negsuc, decimal}
use Rattle.std.specs.Char.{is_ascii_digit}
use Rattle.std.specs.Int.{IsInRange}

-- a number of at most ten digits
abbrev pub Short : ℕ → Type 0
Short n = n < 10 ^ 10

abbrev pub ShortLiteral : ℤ → Type 0
ShortLiteral (pos n) = Short n
ShortLiteral (negsuc n) = Short (suc n)

-- how many digits stand at the front
abbrev pub run : List ℕ → ℕ
run [] = 0
run (b ∷ bs) = cond (is_ascii_digit b) (suc (run bs)) 0

abbrev pub NoDigit : List ℕ → Type 0
NoDigit [] = Unit {0}
NoDigit (b ∷ bs) = IsInRange 48 57 b → ⊥

-- text is the number n, and then rest, which begins with no digit
pub record Number (text : List ℕ) (n : ℕ) (rest : List ℕ) : Type 0 where
  pub small : Short n
  pub whole : text ≡ decimal n ++ rest
  pub ends : NoDigit rest
