-- A landing as one pass over the results in ascending order of their writers. Assumes nothing.
use Rattle.std.specs.Prelude.{◌≡◌, ℕ, zero, suc, Bool, true, ◌&&◌, List, [], ◌∷◌, ◌++◌, nat_le, nat_lt}
use Rattle.runs.specs.Machine.{Pending, of_writer}
use Rattle.runs.specs.Cells.{landed_all_cells, land_below_cells}

-- the results by writer, ascending, those of one writer in their order
abbrev pub ordered : {V : Type 0} → ℕ → List (Pending V) → List (Pending V)
ordered zero fl = []
ordered (suc w) fl = ordered w fl ++ of_writer w fl

-- the writers ascend from lo, and are below n
abbrev pub ascends : {V : Type 0} → ℕ → ℕ → List (Pending V) → Bool
ascends n lo [] = true
ascends n lo (x ∷ xs) = (nat_le lo x.writer && nat_lt x.writer n) && ascends n x.writer xs

-- a landing is one pass over the results in that order
abbrev pub LandsByWriter : Type 0 → Type 0
LandsByWriter V = (n : ℕ) (fl : List (Pending V)) (r : List V) → land_below_cells n fl r ≡ landed_all_cells (ordered n fl) r

-- and over the results as they are listed, where their writers ascend
abbrev pub LandsAsListed : Type 0 → Type 0
LandsAsListed V = (n : ℕ) (fl : List (Pending V)) (r : List V) → ascends n 0 fl ≡ true → land_below_cells n fl r ≡ landed_all_cells fl r
