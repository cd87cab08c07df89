-- What is found or not. Assumes nothing.
use Rattle.std.proofs.Common.{◌≡◌, ℕ, List, IfSome, MatchOption, Some, None, Option, Bor, sym, subst}
use Rattle.std.specs.Option.{option_map}
use Rattle.lines.specs.Begins.{Begins}

pub found_more : {A : Type 0} (r : Option A) (P Q : A → Type 0) → ((x : A) → P x → Q x) → IfSome r P → IfSome r Q
found_more None P Q f h = tt
found_more (Some x) P Q f h = f x h

-- nothing stands there, and none is what is read
pub none_begins : {X : Type 0} (At : X → List ℕ → Type 0) (r : Option (X × Bor (List ℕ))) → r ≡ None → ((x : X) (rest : List ℕ) → At x rest → ⊥) → Begins At r
none_begins At r e never = subst (Begins At) (sym e) (record { sound = tt; complete = never })

pub same_begins : {X : Type 0} (P Q : X → List ℕ → Type 0) (r : Option (X × Bor (List ℕ))) → ((x : X) (rest : List ℕ) → P x rest → Q x rest) → ((x : X) (rest : List ℕ) → Q x rest → P x rest) → Begins P r → Begins Q r
same_begins P Q r to back b = record { sound = found_more r _ _ (λ x h. to x.0 x.1.now h) b.sound; complete = λ x rest h. b.complete x rest (back x rest h) }

pub mapped : {A B : Type 0} (f : A → B) (q : Option A) (r : Option B) → MatchOption q (r ≡ None) (λ x. r ≡ Some (f x)) → r ≡ option_map f q
mapped f None r m = m
mapped f (Some x) r m = m
