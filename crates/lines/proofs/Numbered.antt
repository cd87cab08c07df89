-- A word and a number after it. Assumes nothing.
use Rattle.std.proofs.Common.{◌≡◌, ℕ, List, ◌++◌, decimal, sym, ap, ◌∙◌}
use Rattle.std.proofs.lemmas.List.{append_cancel_left}
use Rattle.lines.specs.Numbers.{Number}
use Rattle.lines.specs.Fields.{Field}

pub field_number : (word text after : List ℕ) (n : ℕ) (rest : List ℕ) → text ≡ word ++ after → Field word text n rest → Number after n rest
field_number word text after n rest e h = record {
  small = h.small;
  whole = append_cancel_left word after (decimal n ++ rest) (sym e ∙ h.whole);
  ends = h.ends;
}

pub number_field : (word text after : List ℕ) (n : ℕ) (rest : List ℕ) → text ≡ word ++ after → Number after n rest → Field word text n rest
number_field word text after n rest e h = record { small = h.small; whole = e ∙ ap (λ l. word ++ l) h.whole; ends = h.ends }
