use Rattle.lines.proofs.Founds.{same_begins}
use Rattle.lines.proofs.Numbered.{field_number, number_field}
use Rattle.lines.proofs.words.field.Goals as goal

pub returns : goal.returns
returns c = same_begins _ _ _ (λ n rest. number_field _ _ _ n rest c.in_ok-after_word.ensures) (λ n rest. field_number _ _ _ n rest c.in_ok-after_word.ensures) c.number.ensures
