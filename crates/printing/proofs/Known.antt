-- What is always known of the blocks of a set. Assumes nothing.
use Rattle.std.proofs.Common.{◌≡◌, ℕ, zero, suc, ◌<◌, ◌≤◌, Bool, false, ◌&&◌, leb, List, [], ◌∷◌, length, get_or, ap, ◌∙◌, ⊎_elim, arith}
use Rattle.std.specs.List.{AllByRecursion}
use Rattle.std.proofs.lemmas.Bool.{cases_eq}
use Rattle.std.proofs.lemmas.Bool.Decides.{nat_tests}
use Rattle.blocks.proofs.Counted.{sixteen}
use Rattle.blocks.specs.declared.block.Block.{Block}
use Rattle.blocks.specs.declared.blocks.Blocks.{Blocks}
use Rattle.blocks.specs.Machine.{slots_of}
use Rattle.blocks.specs.Exits.{goes_on}
use Rattle.blocks.specs.Entries.{Apart}
use Rattle.blocks.specs.Model.{empty}
use Rattle.blocks.specs.Calls.{body_at}
use Rattle.blocks.specs.View.{bodies_of}
use Rattle.blocks.specs.Whole.{state_of}
use Rattle.printing.specs.Printed.{Held, BlockPrinted, SetPrinted}
use Rattle.printing.specs.Sets.{block_text, set_text}
use Rattle.printing.proofs.Whole.{Fits, block_back, set_back}

few_apart : (bs : List Block) (n : ℕ) → (length (get_or (bodies_of bs) n empty).entries ≤ 64) × Apart (get_or (bodies_of bs) n empty).entries
few_apart [] n = (omega arith, λ i j h. let z : ◌≡◌ {A = ℕ} 0 1 = cc in absurd (omega arith))
few_apart (b ∷ bs) zero = (omega (arith, b.few, b.entries.ok.0), b.apart)
few_apart (b ∷ bs) (suc n) = few_apart bs n

last_ends : (B : Blocks) (n : ℕ) → n < 16 → (leb 15 n && goes_on (body_at (state_of B) n).exit) ≡ false
last_ends B n l =
    ⊎_elim
    (λ (e : n ≡ 15). let g : goes_on (body_at (state_of B) n).exit ≡ false = ap (λ m. goes_on (body_at (state_of B) m).exit) e ∙ B.last in by _ g)
    (λ (ne : n ≡ 15 → ⊥). below _ (omega arith))
    (cases_eq n 15)
  where
    by : (b : Bool) → b ≡ false → (leb 15 n && b) ≡ false
    by b e = grind (arith, nat_tests)

    below : (b : Bool) → n < 15 → (leb 15 n && b) ≡ false
    below b h = grind (arith, nat_tests)

known : (B : Blocks) (n : ℕ) → n < 16 → AllByRecursion Held (body_at (state_of B) n).entries → Fits (slots_of B.description.slots) n (body_at (state_of B) n)
known B n l h =
    let k = few_apart B.blocks.items n in
    record { well = record { few = k.0; apart = k.1; fit = B.fit n }; held = h; last = last_ends B n l }

pub block_printed : (B : Blocks) (n : ℕ) (t : List ℕ) → n < 16 → AllByRecursion Held (body_at (state_of B) n).entries → t ≡ block_text n (body_at (state_of B) n) → BlockPrinted (state_of B) n t
block_printed B n t l h e = record {
  there = l;
  text = e;
  back = rw e (block_back B.description n (body_at (state_of B) n) l (known B n l h));
}

pub set_printed : (B : Blocks) (t : List ℕ) → ((n : ℕ) → n < 16 → AllByRecursion Held (body_at (state_of B) n).entries) → t ≡ set_text (state_of B) → SetPrinted (state_of B) t
set_printed B t h e = record {
  text = e;
  back = rw e (set_back B.description (state_of B).bodies (sixteen B) (λ n l. known B n l (h n l)));
}
