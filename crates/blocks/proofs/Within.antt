-- A step of one block, as a step of the whole set. Assumes nothing.
use Rattle.std.proofs.Common.{◌≡◌, ℕ, zero, suc, ◌<◌, cond, List, [], ◌∷◌, length, get_or, set, replicate, Ok, Err, Result, sym, refl, ap, ap₂, ◌∙◌, subst, ⊎_elim, arith, lt-ltb}
use Rattle.std.proofs.lemmas.List.{map-set, get_or-map, set-get_or, length-map, get_or-set_same, get_or-set_other}
use Rattle.std.proofs.lemmas.Bool.{cases_eq}
use Rattle.std.specs.List.{All}
use Rattle.operations.specs.declared.refusal.Refusal.{Refusal}
use Rattle.operations.specs.declared.refusal.Refusal.TheVariants.{NoSuch}
use Rattle.blocks.specs.declared.block.Block.{Block}
use Rattle.blocks.specs.declared.blocks.Blocks.{Blocks}
use Rattle.blocks.specs.Steps.{Outcome, answer, after, Did}
use Rattle.blocks.specs.Machine.{slots_of}
use Rattle.blocks.specs.Exits.{goes_on}
use Rattle.blocks.specs.Model.{Body, empty}
use Rattle.blocks.specs.Calls.{State, put_back, in_block}
use Rattle.blocks.specs.View.{body_of, bodies_of, BlocksFit, LastEnds}
use Rattle.blocks.specs.Whole.{state_of}
use Rattle.blocks.proofs.Keeps.{Good}

-- block n, as it is read
body_read : (bs : List Block) (n : ℕ) (x : Block) → n < length bs → x ≡ get_or bs n x → get_or (bodies_of bs) n empty ≡ body_of x
body_read bs n x h read = get_or-map body_of bs n x empty h ∙ ap body_of (sym read)

long : (B : Blocks) (n : ℕ) → n < 16 → n < length B.blocks.items
long B n h = omega (arith, B.blocks.ok.0, B.sixteen)

abbrev with_bodies : Blocks → List Body → State
with_bodies B ys = record { description = B.description; bodies = ys }

-- block n went from x to w and answered r, by that step
module _ {X : Type 0} (B : Blocks) (n : ℕ) (x w : Block) (r : Result X Refusal) (step : Body → Outcome X Body) (below : n < 16) (read : x ≡ get_or B.blocks.items n x) (did : Did (body_of x) (body_of w) r (step (body_of x))) where
  here : get_or (bodies_of B.blocks.items) n empty ≡ body_of x
  here = body_read B.blocks.items n x (long B n below) read

  opened : in_block (state_of B) n step ≡ put_back (state_of B) n (step (body_of x))
  opened =
      ap (λ t. cond t (put_back (state_of B) n (step (get_or (bodies_of B.blocks.items) n empty))) (Err NoSuch)) (lt-ltb n 16 below)
      ∙ ap (λ b. put_back (state_of B) n (step b)) here

  answer_back : (o : Outcome X Body) → answer (put_back (state_of B) n o) ≡ answer o
  answer_back (Ok p) = refl
  answer_back (Err e) = refl

  after_back : (o : Outcome X Body) → after (state_of B) (put_back (state_of B) n o) ≡ with_bodies B (set (bodies_of B.blocks.items) n (after (body_of x) o))
  after_back (Ok p) = refl
  after_back (Err e) = sym (ap (with_bodies B) (ap (set (bodies_of B.blocks.items) n) (sym here) ∙ set-get_or (bodies_of B.blocks.items) n empty))

  once : Did (state_of B) (with_bodies B (bodies_of (set B.blocks.items n w))) r (in_block (state_of B) n step)
  once = record {
    answered = did.answered ∙ sym (ap answer opened ∙ answer_back (step (body_of x)));
    left =
        ap (with_bodies B) (map-set body_of B.blocks.items n w ∙ ap (set (bodies_of B.blocks.items) n) did.left)
        ∙ sym (ap (after (state_of B)) opened ∙ after_back (step (body_of x)));
  }

  good_at : (k : ℕ) → Good (slots_of B.description.slots) k (get_or (bodies_of B.blocks.items) k empty)
  good_at k = (B.fit k, λ e. ap (λ m. goes_on (get_or (bodies_of B.blocks.items) m empty).exit) e ∙ B.last)

  -- what always holds of each block goes on to hold
  good_after : ((b : Body) → Good (slots_of B.description.slots) n b → Good (slots_of B.description.slots) n (after b (step b))) → (k : ℕ) → Good (slots_of B.description.slots) k (get_or (bodies_of (set B.blocks.items n w)) k empty)
  good_after keeps k =
      let P : ℕ → Body → Type 0 = Good (slots_of B.description.slots) in
      let Q : Body → Type 0 = P n in
      let R : Body → Type 0 = P k in
      let len = length-map B.blocks.items body_of in
      let there = long B n below in
      let new : P n (body_of w) = subst Q (sym did.left) (keeps (body_of x) (subst Q here (good_at n))) in
      let m : bodies_of (set B.blocks.items n w) ≡ set (bodies_of B.blocks.items) n (body_of w) = map-set body_of B.blocks.items n w in
      let S : ℕ → Type 0 = λ i. P i (get_or (bodies_of (set B.blocks.items n w)) i empty) in
      ⊎_elim
      (λ (q : k ≡ n). subst S (sym q) (subst Q (sym (ap (λ l. get_or l n empty) m ∙ get_or-set_same (bodies_of B.blocks.items) n (body_of w) empty (omega arith))) new))
      (λ (nq : k ≡ n → ⊥). subst R (sym (ap (λ l. get_or l k empty) m ∙ get_or-set_other (bodies_of B.blocks.items) n k (body_of w) empty nq)) (good_at k))
      (cases_eq k n)

  once_good : ((b : Body) → Good (slots_of B.description.slots) n b → Good (slots_of B.description.slots) n (after b (step b))) → BlocksFit (slots_of B.description.slots) (set B.blocks.items n w) × LastEnds (set B.blocks.items n w)
  once_good keeps = (λ k. (good_after keeps k).0, (good_after keeps 15).1 refl)

-- the same with the number m that the block was found by
module _ {X : Type 0} (B : Blocks) (m n : ℕ) (same : m ≡ n) (x w : Block) (r : Result X Refusal) (step : Body → Outcome X Body) (below : n < 16) (read : x ≡ get_or B.blocks.items m x) (did : Did (body_of x) (body_of w) r (step (body_of x))) where
  found : x ≡ get_or B.blocks.items n x
  found = let P : ℕ → Type 0 = λ k. x ≡ get_or B.blocks.items k x in subst P same read

  pub within : Did (state_of B) (with_bodies B (bodies_of (set B.blocks.items m w))) r (in_block (state_of B) n step)
  within =
      let P : ℕ → Type 0 = λ k. Did (state_of B) (with_bodies B (bodies_of (set B.blocks.items k w))) r (in_block (state_of B) n step) in
      subst P (sym same) (once B n x w r step below found did)

  pub within_good : ((b : Body) → Good (slots_of B.description.slots) n b → Good (slots_of B.description.slots) n (after b (step b))) → BlocksFit (slots_of B.description.slots) (set B.blocks.items m w) × LastEnds (set B.blocks.items m w)
  within_good keeps =
      let P : ℕ → Type 0 = λ k. BlocksFit (slots_of B.description.slots) (set B.blocks.items k w) × LastEnds (set B.blocks.items k w) in
      subst P (sym same) (once_good B n x w r step below found did keeps)

-- blocks that are all empty
pub bodies_empty : (bs : List Block) (n : ℕ) → All (λ b. body_of b ≡ empty) bs → length bs ≡ n → bodies_of bs ≡ replicate n empty
bodies_empty [] zero a l = refl
bodies_empty [] (suc n) a l = absurd (omega arith)
bodies_empty (b ∷ bs) zero a l = absurd (omega arith)
bodies_empty (b ∷ bs) (suc n) a l = ap₂ (λ x xs. x ∷ xs) (a 0 b (omega arith)) (bodies_empty bs n (λ k d h. a (suc k) d (omega arith)) (omega arith))
