use Rattle.std.proofs.Common.{◌≡◌, true, length, Some, sym, refl, ap, rules}
use Rattle.memories.specs.Meaning.{stored}
use Rattle.memories.specs.Sections.{index, there}
use Rattle.memories.proofs.Packed.{same_index, word_after}
use Rattle.memories.proofs.sectioned.SectionedMemory.store.Goals as goal

pub returns : goal.returns
returns c =
    let m = c.args.self.now in
    let ss = m.sections.now in
    let ws = m.words.now in
    let b = c.args.address in
    let k = c.in_ok-place.place in
    let e : index ss (length ws) b ≡ Some k = search rules in
    record {
      answer = sym (ap (λ o. stored (there o) true) e);
      same_has = λ a. ap there (same_index ss ws k c.args.value a);
      same_may = λ _. refl;
      words = word_after ss ws b k c.args.value e;
      lent = refl;
    }
