-- From single pairs to all. Assumes nothing.
use Rattle.std.proofs.Common.{◌≡◌, ℕ, ◌<◌, List, length, get_or, Some, None, Option, MatchOption, subst}
use Rattle.std.proofs.lemmas.List.{get_or_read}
use Rattle.checker.specs.declared.placed.Placed.{Placed}
use Rattle.checker.specs.Pairs.{PairKept, KeptAt, KeptFrom, AllKept}

pub kept_at : (ps : List Placed) (i j : ℕ) (a b : Placed) → i < length ps → j < length ps → a ≡ get_or ps i a → b ≡ get_or ps j b → PairKept a b → KeptAt ps i j
kept_at ps i j a b hi hj ea eb here = record {
  each = λ d.
      let Q : Placed → Type 0 = λ x. PairKept x (get_or ps j d) in
      let R : Placed → Type 0 = λ y. PairKept a y in
      subst Q (get_or_read ps i a hi ea d) (subst R (get_or_read ps j b hj eb d) here);
}

pub kept_from_all : {C : Type 0} (ps : List Placed) (j : ℕ) (r : Option C) (P : C → Type 0) → MatchOption r ((i : ℕ) → i < j → KeptAt ps i j) P → MatchOption r (KeptFrom ps j) P
kept_from_all ps j None P h = record { before = λ m d l. (h m l).each d }
kept_from_all ps j (Some v) P h = h

pub all_kept : {C : Type 0} (ps : List Placed) (n : ℕ) (r : Option C) (P : C → Type 0) → MatchOption r ((j : ℕ) → j < n → KeptFrom ps j) P → MatchOption r (AllKept ps n) P
all_kept ps n None P h = λ j l. (h j l).before
all_kept ps n (Some v) P h = h
