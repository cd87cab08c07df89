use Rattle.std.specs.Prelude.{ℕ, ◌/◌, ◌%◌, Bool, cond, ◌&&◌, List, length, Ok, Err, Result, ◌==◌, nat_lt, slice_index}
use Rattle.operations.specs.declared.refusal.Refusal.{Refusal}
use Rattle.operations.specs.declared.refusal.Refusal.TheVariants.{NoSuchWord, StoreBarred}

-- what a load answers, of whether there is a word, and which
abbrev pub loaded : Bool → ℕ → Result ℕ Refusal
loaded has w = cond has (Ok w) (Err NoSuchWord)

-- what a store answers, of whether there is a word, and whether it may be stored to
abbrev pub stored : Bool → Bool → Result (Unit {0}) Refusal
stored has may = cond has (cond may (Ok tt) (Err StoreBarred)) (Err NoSuchWord)

-- the word at a, that was w, after a store of v to b; taken: whether that store is not refused
abbrev pub after : (taken : Bool) (b v a w : ℕ) → ℕ
after taken b v a w = cond (taken && a == b) v w

-- one word at each of 0, 4, 8 and on
abbrev pub flat_has : List ℕ → ℕ → Bool
flat_has ws a = a % 4 == 0 && nat_lt (a / 4) (length ws)

abbrev pub flat_word : List ℕ → ℕ → ℕ
flat_word ws a = cond (flat_has ws a) (slice_index ws (a / 4)) 0
