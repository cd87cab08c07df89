use Rattle.std.proofs.Common.{◌≡◌, true, ◌&&◌, leb, length, sym, refl, rules}
use Rattle.std.proofs.lemmas.Bool.{and_from}
use Rattle.memories.specs.Sections.{in_order, word_count}
use Rattle.memories.proofs.Ordered.{has_covered}
use Rattle.memories.proofs.sectioned.Sectioned.over.Goals as goal

pub returns : goal.returns
returns c =
    let ss = c.args.sections.now in
    let n = length c.args.words.now in
    let f : leb (length ss) 16 ≡ true = search rules in
    let g : in_order 0 ss ≡ true = search rules in
    let h : leb (word_count ss) n ≡ true = search rules in
    record {
      answer = sym (and_from (leb (length ss) 16 && in_order 0 ss) (leb (word_count ss) n) (and_from (leb (length ss) 16) (in_order 0 ss) f g) h);
      held = (refl, (refl, refl));
      refused = tt;
      has = λ a. has_covered ss n a g h;
    }
