-- Blocks as they are found and printed, one by one. Assumes nothing.
use Rattle.std.proofs.Common.{◌≡◌, ℕ, ◌+◌, ◌<◌, ◌≤◌, true, false, cond, List, [], ◌∷◌, ◌++◌, length, take, sym, ap, ◌∙◌, subst, append_assoc, append-nil, arith, below_more}
use Rattle.std.specs.List.{AllByRecursion}
use Rattle.std.proofs.lemmas.Grind.{flat_map-append}
use Rattle.std.proofs.lemmas.List.{length-take-le, take_more, take_all}
use Rattle.blocks.specs.declared.blocks.Blocks.{Blocks}
use Rattle.blocks.specs.Model.{Body, empty}
use Rattle.blocks.specs.Calls.{body_at}
use Rattle.blocks.specs.Whole.{state_of}
use Rattle.printing.specs.Sets.{block_lines, used, lines_from, line_ended, lines_text, block_text}
use Rattle.printing.specs.Printed.{Held, BlockPrinted, SetPrinted}
use Rattle.printing.proofs.Whole.{unused}
use Rattle.blocks.proofs.Counted.{sixteen}
use Rattle.printing.proofs.Known.{block_printed, set_printed}

-- the lines that are printed of block n
abbrev lines_at : ℕ → Body → List ℕ
lines_at n b = lines_text (cond (used b) (block_lines n b) [])

-- a block that is not used is passed over
pub passed : (n : ℕ) (b : Body) (a : List ℕ) → false ≡ used b → (a ≡ a ++ lines_at n b) × AllByRecursion Held b.entries
passed n b a u = subst (λ (c : Body). (a ≡ a ++ lines_at n c) × AllByRecursion Held c.entries) (sym (unused b.entries b.exit (sym u))) (sym (append-nil a), tt)

used_printed : (n : ℕ) (b : Body) (a t : List ℕ) → true ≡ used b → (t ≡ a ++ block_text n b) × AllByRecursion Held b.entries → (t ≡ a ++ lines_at n b) × AllByRecursion Held b.entries
used_printed n b a t u p = (p.0 ∙ ap (λ c. a ++ lines_text (cond c (block_lines n b) [])) u, p.1)

pub alone_printed : (B : Blocks) (n : ℕ) (b : Body) → n < 16 → b ≡ body_at (state_of B) n → (a t : List ℕ) → a ≡ [] → (t ≡ a ++ block_text n b) × AllByRecursion Held b.entries → BlockPrinted (state_of B) n t
alone_printed B n b l e a t z p =
    let q = subst (λ (c : Body). (t ≡ a ++ block_text n c) × AllByRecursion Held c.entries) e p in
    block_printed B n t l q.1 (q.0 ∙ ap (λ l. l ++ block_text n (body_at (state_of B) n)) z)

-- the blocks below k have been printed
pub record PrintedBelow (B : Blocks) (t : List ℕ) (k : ℕ) : Type 0 where
  pub text : t ≡ lines_text (lines_from 0 (take k (state_of B).bodies))
  pub held : (i : ℕ) → i < k → AllByRecursion Held (body_at (state_of B) i).entries

lines_more : (n : ℕ) (bs : List Body) (b : Body) (k : ℕ) → n + length bs ≡ k → lines_from n (bs ++ b ∷ []) ≡ lines_from n bs ++ cond (used b) (block_lines k b) []
lines_more n [] b k e = append-nil (cond (used b) (block_lines n b) []) ∙ ap (λ (m : ℕ). cond (used b) (block_lines m b) []) (omega arith)
lines_more n (c ∷ bs) b k e =
    ap (λ l. cond (used c) (block_lines n c) [] ++ l) (lines_more (n + 1) bs b k (omega arith))
    ∙ sym (append_assoc (cond (used c) (block_lines n c) []) (lines_from (n + 1) bs) (cond (used b) (block_lines k b) []))

one_more : (B : Blocks) (was now : List ℕ) (k : ℕ) → k < 16 → PrintedBelow B was k → (now ≡ was ++ lines_at k (body_at (state_of B) k)) × AllByRecursion Held (body_at (state_of B) k).entries → PrintedBelow B now (k + 1)
one_more B was now k l p q =
    let bs : List Body = (state_of B).bodies in
    let long = sixteen B in
    let b : Body = body_at (state_of B) k in
    let more : lines_from 0 (take (k + 1) bs) ≡ lines_from 0 (take k bs) ++ cond (used b) (block_lines k b) [] =
    ap (lines_from 0) (take_more bs k empty (omega arith)) ∙ lines_more 0 (take k bs) b k (omega (arith, length-take-le k bs (omega arith))) in
    record {
      text = q.0 ∙ ap (λ a. a ++ lines_at k b) p.text ∙ sym (flat_map-append line_ended (lines_from 0 (take k bs)) (cond (used b) (block_lines k b) [])) ∙ sym (ap lines_text more);
      held = below_more _ k p.held q.1;
    }

pub one_passed : (B : Blocks) (t : List ℕ) (k : ℕ) (b : Body) → k < 16 → PrintedBelow B t k → b ≡ body_at (state_of B) k → false ≡ used b → PrintedBelow B t (k + 1)
one_passed B t k b l p e u = one_more B t t k l p (subst (λ (c : Body). (t ≡ t ++ lines_at k c) × AllByRecursion Held c.entries) e (passed k b t u))

pub one_printed : (B : Blocks) (was now : List ℕ) (k : ℕ) (b : Body) → k < 16 → PrintedBelow B was k → b ≡ body_at (state_of B) k → true ≡ used b → (now ≡ was ++ block_text k b) × AllByRecursion Held b.entries → PrintedBelow B now (k + 1)
one_printed B was now k b l p e u h = one_more B was now k l p (subst (λ (c : Body). (now ≡ was ++ lines_at k c) × AllByRecursion Held c.entries) e (used_printed k b was now u h))

pub all_printed : (B : Blocks) (t : List ℕ) (k : ℕ) → 16 ≤ k → PrintedBelow B t k → SetPrinted (state_of B) t
all_printed B t k l p =
    let long = sixteen B in
    set_printed B t (λ n h. p.held n (omega arith)) (p.text ∙ ap (λ bs. lines_text (lines_from 0 bs)) (take_all k (state_of B).bodies (omega arith)))
