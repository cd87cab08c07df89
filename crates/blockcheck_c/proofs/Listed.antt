-- Rows of numbers, one behind the other. Assumes nothing.
use Rattle.std.proofs.Common.{◌≡◌, ℕ, ◌+◌, ◌<◌, ◌≤◌, List, [], ◌∷◌, ◌++◌, length, get_or, take, sym, ap, ◌∙◌}
use Rattle.std.specs.List.{flat_map}
use Rattle.std.proofs.lemmas.List.{flat_map_more, take_more, take_all}
use Rattle.verdicts.specs.declared.verdict.BlockVerdict.{BlockVerdict}
use Rattle.blockcheck_c.specs.Numbers.{row_of, numbers_of}

pub row_more : (vs : List BlockVerdict) (i : ℕ) (v : BlockVerdict) (was now : List ℕ) → i < length vs → v ≡ get_or vs i v → was ≡ length vs ∷ flat_map row_of (take i vs) → now ≡ was ++ row_of v → now ≡ length vs ∷ flat_map row_of (take (i + 1) vs)
row_more vs i v was now h is e more =
    more
    ∙ ap (λ l. l ++ row_of v) e
    ∙ flat_map_more row_of (length vs ∷ []) (take i vs) v
    ∙ ap (λ ys. length vs ∷ flat_map row_of ys) (ap (λ y. take i vs ++ y ∷ []) is ∙ sym (take_more vs i v h))

pub row_all : (vs : List BlockVerdict) (i : ℕ) (now : List ℕ) → length vs ≤ i → now ≡ length vs ∷ flat_map row_of (take i vs) → now ≡ numbers_of vs
row_all vs i now h e = e ∙ ap (λ ys. length vs ∷ flat_map row_of ys) (take_all i vs h)
