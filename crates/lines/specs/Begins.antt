-- What stands at the front of a text. Assumes nothing.
use Rattle.std.specs.Prelude.{◌≡◌, ℕ, List, IfSome, MatchOption, Option}
use Rattle.std.specs.Borrow.{Bor}

-- r is the x at the front, and what follows it; there is only one such x and rest
pub record Begins {X : Type 0} (At : X → List ℕ → Type 0) (r : Option (X × Bor (List ℕ))) : Type 0 where
  pub sound : IfSome r (λ x. At x.0 x.1.now)
  pub complete : (x : X) (rest : List ℕ) → At x rest → MatchOption r ⊥ (λ y. (y.0 ≡ x) × (y.1.now ≡ rest))
