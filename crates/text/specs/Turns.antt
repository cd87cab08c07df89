-- What one line more does. Assumes nothing.
use Rattle.std.specs.Prelude.{ℕ, List, ◌∷◌, Err, Result}
use Rattle.operations.specs.declared.refusal.Refusal.{Refusal}
use Rattle.text.specs.Texts.{lines_of, Taken}

-- the line l takes s to t, whatever lines come behind it
abbrev pub GoesOn : {S W : Type 0} (Line : List ℕ → W → Type 0) (step : S → W → Result S Refusal) → S → List ℕ → S → Type 0
GoesOn Line step s l t = (ls : List (List ℕ)) (o : Result _ (Refusal × List ℕ)) → Taken Line step t ls o → Taken Line step s (l ∷ ls) o

-- the line l is refused, whatever lines come behind it
abbrev pub Stops : {S W : Type 0} (Line : List ℕ → W → Type 0) (step : S → W → Result S Refusal) → S → List ℕ → Refusal → Type 0
Stops Line step s l e = (ls : List (List ℕ)) → Taken Line step s (l ∷ ls) (Err (e, l))

-- what is left gives the whole: s is at the front of the text, t in front of what is left of it
abbrev pub Leads : {S W : Type 0} (Line : List ℕ → W → Type 0) (step : S → W → Result S Refusal) → S → List ℕ → S → List ℕ → Type 0
Leads Line step s text t rest = (o : Result _ (Refusal × List ℕ)) → Taken Line step t (lines_of rest) o → Taken Line step s (lines_of text) o
