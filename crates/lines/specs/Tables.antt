-- Tables of words. Assumes nothing.
use Rattle.std.specs.Prelude.{ℕ, cond, List, [], ◌∷◌, Some, None, Option, ◌==◌}
use Rattle.std.specs.Borrow.{Bor}

-- what follows a word at the front of a text
abbrev pub after : List ℕ → List ℕ → Option (List ℕ)
after [] t = Some t
after (w ∷ ws) [] = None
after (w ∷ ws) (b ∷ bs) = cond (w == b) (after ws bs) None

abbrev pub or_else : {T : Type 0} → Option (List ℕ) → T → Option (T × List ℕ) → Option (T × List ℕ)
or_else None x other = other
or_else (Some rest) x other = Some (x, rest)

-- what the first of a table's words that t begins with stands for, and what follows it
abbrev pub begun : {T : Type 0} → List (T × Bor (List ℕ)) → List ℕ → Option (T × List ℕ)
begun [] t = None
begun (x ∷ xs) t = or_else (after x.1.now t) x.0 (begun xs t)
