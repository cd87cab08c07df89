-- A word and a number behind it. Assumes nothing.
use Rattle.std.specs.Prelude.{◌≡◌, ℕ, List, ◌++◌, decimal}
use Rattle.lines.specs.Numbers.{Short, NoDigit}

-- text is word, the number n, and then rest, which begins with no digit
pub record Field (word text : List ℕ) (n : ℕ) (rest : List ℕ) : Type 0 where
  pub small : Short n
  pub whole : text ≡ word ++ (decimal n ++ rest)
  pub ends : NoDigit rest
