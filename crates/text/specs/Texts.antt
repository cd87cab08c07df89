-- Texts of lines, and how they are taken in. Assumes nothing.
use Rattle.std.specs.Prelude.{◌≡◌, ℕ, ◌<◌, cond, List, [], ◌∷◌, ◌++◌, length, Ok, Err, Result, ◌==◌, ◌≢◌, slice_index}
use Rattle.operations.specs.declared.refusal.Refusal.{Refusal}
use Rattle.operations.specs.declared.refusal.Refusal.TheVariants.{Unreadable}

abbrev pub NoNewline : List ℕ → Type 0
NoNewline bs = (k : ℕ) → k < length bs → slice_index bs k ≢ 10

-- the first line begins with b
abbrev pub longer : ℕ → List (List ℕ) → List (List ℕ)
longer b [] = (b ∷ []) ∷ []
longer b (l ∷ ls) = (b ∷ l) ∷ ls

-- the lines of a text: what stands before each newline, and what stands behind the last one, if anything does
abbrev pub lines_of : List ℕ → List (List ℕ)
lines_of [] = []
lines_of (b ∷ bs) = cond (b == 10) ([] ∷ lines_of bs) (longer b (lines_of bs))

-- a line with the newline behind it
abbrev pub ended : List ℕ → List ℕ
ended l = l ++ 10 ∷ []

-- Lines are taken in one by one: each is the text of what it says, by Line, and step has the state after it. The first
-- that is the text of nothing, or that step refuses, is handed back with its refusal.
pub data Taken {S W : Type 0} (Line : List ℕ → W → Type 0) (step : S → W → Result S Refusal) : S → List (List ℕ) → Result S (Refusal × List ℕ) → Type 0 where
  end : (s : S) → Taken Line step s [] (Ok s)
  next : (s : S) (l : List ℕ) (ls : List (List ℕ)) (w : W) (t : S) (o : Result S (Refusal × List ℕ)) → Line l w → step s w ≡ Ok t → Taken Line step t ls o → Taken Line step s (l ∷ ls) o
  refused : (s : S) (l : List ℕ) (ls : List (List ℕ)) (w : W) (e : Refusal) → Line l w → step s w ≡ Err e → Taken Line step s (l ∷ ls) (Err (e, l))
  unreadable : (s : S) (l : List ℕ) (ls : List (List ℕ)) → ((w : W) → Line l w → ⊥) → Taken Line step s (l ∷ ls) (Err (Unreadable, l))
