-- The blocks that have operations, one by one. Assumes nothing.
use Rattle.std.proofs.Common.{◌≡◌, ℕ, ◌+◌, ◌<◌, ◌≤◌, Bool, true, false, cond, ◌&&◌, ltb, List, [], ◌∷◌, ◌++◌, map, length, drop, Some, None, Ok, Option, Result, sym, refl, ap, ◌∙◌, subst, append_assoc, append-nil, arith}
use Rattle.std.specs.List.{AllByRecursion}
use Rattle.std.proofs.slice.Lists.{all_by_recursion_push}
use Rattle.std.proofs.lemmas.List.{drop_more, drop_all, length_push, map-append}
use Rattle.std.proofs.lemmas.Bool.{lt-ltb, and_parts, false≢true, cond-true}
use Rattle.operations.specs.declared.refusal.Refusal.{Refusal}
use Rattle.blocks.specs.Model.{empty}
use Rattle.blocks.specs.declared.description.Description.{Description}
use Rattle.blocks.specs.declared.position.Entry.{Entry}
use Rattle.blocks.specs.Calls.{State, body_at}
use Rattle.blocks.specs.Entries.{unplaced_lowest}
use Rattle.checker.specs.declared.verdict.Verdict.{Verdict}
use Rattle.checker.specs.declared.verdict.Verdict.TheVariants as verdict
use Rattle.checker.specs.Checks.{Checked, CheckedIn, JudgedWith}
use Rattle.verdicts.specs.declared.verdict.Standing.{Standing}
use Rattle.verdicts.specs.declared.verdict.Standing.TheVariants as standing
use Rattle.verdicts.specs.declared.verdict.BlockVerdict.{BlockVerdict}
use Rattle.verdicts.specs.Listing.{filled, filled_from, block_of, answer_of, Told}

-- the blocks below n have their verdicts
pub record ToldBelow (s : State) (n : ℕ) (vs : List BlockVerdict) : Type 0 where
  pub all : map block_of vs ++ filled_from n (drop n s.bodies) ≡ filled_from 0 s.bodies
  pub each : AllByRecursion (λ v. Checked s v.block (answer_of v.standing)) vs
  pub few : length vs ≤ n

here : (s : State) (n : ℕ) → n < length s.bodies → filled_from n (drop n s.bodies) ≡ cond (ltb 0 (length (body_at s n).entries)) (n ∷ []) [] ++ filled_from (n + 1) (drop (n + 1) s.bodies)
here s n h = ap (filled_from n) (drop_more s.bodies n empty h)

pub below_more : (s : State) (n : ℕ) (vs : List BlockVerdict) (a : Standing) → n < 16 → length s.bodies ≡ 16 → filled s n ≡ true → Checked s n (answer_of a) → ToldBelow s n vs → ToldBelow s (n + 1) (vs ++ record { block = n; standing = a } ∷ [])
below_more s n vs a h sixteen f c t = record {
  all =
      ap (λ l. l ++ filled_from (n + 1) (drop (n + 1) s.bodies)) (map-append block_of vs (record { block = n; standing = a } ∷ []))
      ∙ append_assoc (map block_of vs) (n ∷ []) (filled_from (n + 1) (drop (n + 1) s.bodies))
      ∙ ap (λ l. map block_of vs ++ l) (sym (here s n (omega arith) ∙ ap (λ b. cond b (n ∷ []) [] ++ filled_from (n + 1) (drop (n + 1) s.bodies)) (and_parts (ltb n 16) (ltb 0 (length (body_at s n).entries)) f).1))
      ∙ t.all;
  each = all_by_recursion_push (λ v. Checked s v.block (answer_of v.standing)) vs (record { block = n; standing = a }) t.each c;
  few = omega (arith, length_push vs (record { block = n; standing = a }), t.few);
}

verdict_stands : (v : Verdict) → (x : Standing) × (Ok v ≡ answer_of x)
verdict_stands verdict.Kept = (standing.Kept, refl)
verdict_stands (verdict.Violated w) = (standing.Violated w, refl)

judged_stands : (o : Option ℕ) (d : Description) (es : List Entry) (r : Result Verdict Refusal) → JudgedWith o d es r → (x : Standing) × (r ≡ answer_of x)
judged_stands (Some i) d es r e = (standing.Unplaced i, e)
judged_stands None d es r j = let k = verdict_stands j.0 in (k.0, j.1 ∙ k.1)

-- each of the sixteen blocks stands in some way
pub stands : (s : State) (n : ℕ) (r : Result Verdict Refusal) → n < 16 → Checked s n r → (x : Standing) × (r ≡ answer_of x)
stands s n r h c = judged_stands (unplaced_lowest (body_at s n).entries) s.description (body_at s n).entries r (subst (λ o. CheckedIn o s.description r) (cond-true (ltb n 16) (Some (body_at s n)) None (lt-ltb n 16 h)) c)

pub below_skip : (s : State) (n : ℕ) (vs : List BlockVerdict) → n < 16 → length s.bodies ≡ 16 → filled s n ≡ false → ToldBelow s n vs → ToldBelow s (n + 1) vs
below_skip s n vs h sixteen f t = record {
  all =
      ap (λ l. map block_of vs ++ l) (sym (here s n (omega arith) ∙ ap (λ b. cond b (n ∷ []) [] ++ filled_from (n + 1) (drop (n + 1) s.bodies)) (not_filled (ltb n 16) (ltb 0 (length (body_at s n).entries)) (lt-ltb n 16 h) f)))
      ∙ t.all;
  each = t.each;
  few = omega (arith, t.few);
}
  where
    not_filled : (a b : Bool) → a ≡ true → (a && b) ≡ false → b ≡ false
    not_filled true b e f = f
    not_filled false b e f = absurd (false≢true e)

pub below_all : (s : State) (n : ℕ) (vs : List BlockVerdict) → n ≡ 16 → length s.bodies ≡ 16 → ToldBelow s n vs → Told s vs
below_all s n vs h sixteen t = record {
  all = sym (append-nil (map block_of vs)) ∙ ap (λ l. map block_of vs ++ l) (sym (ap (filled_from n) (drop_all n s.bodies (omega arith)))) ∙ t.all;
  each = t.each;
  few = omega (arith, t.few);
}
