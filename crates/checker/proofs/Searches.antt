-- What a search over a range says where it finds nothing. Assumes nothing.
use Rattle.std.proofs.Common.{◌≡◌, ℕ, ◌-◌, ◌<◌, Some, None, Option, IfSome, MatchOption, IsTrue, ap, ◌∙◌, subst, arith}
use Rattle.std.specs.declared.ops.Range.{Range}
use Rattle.std.specs.Fn.{Called}
use Rattle.std.specs.Option.{option_map}
use Rattle.std.specs.Iterator.Runs.{Run, SomeRun, AllItemsGive, CallKeepsClosure}
use Rattle.std.proofs.iter.Yields.{nat_range_steps}
use Rattle.std.proofs.iter.runs.Sources.{range_listed}
use denote.Param.Members.{Mut}

same_item : {A : Type 0} (o : Option A) (x : A) → option_map (λ y. y) o ≡ Some x → o ≡ Some x
same_item None x e = e
same_item (Some y) x e = e

-- from 0 to n
pub none_below : {C F : Type 0} (g : Mut F (ℕ × Unit {0}) (Option C)) (f : F) (s : Range ℕ) (n : ℕ) (r : Option C) (N : ℕ → Type 0) (P : C → Type 0) (Q : Run nat_range_steps → C → Type 0) →
    s.start ≡ 0 → s.end ≡ n → SomeRun nat_range_steps s (λ p. MatchOption r (IsTrue p.whole × AllItemsGive p g f None) (Q p)) → CallKeepsClosure g f →
    ((x : ℕ) → Called g f (x, tt) None f → N x) → IfSome r P → MatchOption r ((k : ℕ) → k < n → N k) P
none_below g f s n (Some c) N P Q zero end run keeps each some = some
none_below g f s n None N P Q zero end run keeps each some = λ k below.
    let p = run.0 in
    let l = range_listed p p.seen in
    let a : l.0 ≡ 0 = l.2 ∙ ap (λ (t : Range ℕ). t.start) run.1 ∙ zero in
    let b : l.1 ≡ n = l.3 ∙ ap (λ (t : Range ℕ). t.end) run.1 ∙ end in
    let long : p.len ≡ l.1 - l.0 = l.4.1 run.2.0 in
    let item : p.at k ≡ Some k = same_item (p.at k) k (l.4.3 k (omega arith) ∙ ap Some (omega arith)) in
    each k (subst (λ o. IfSome o (λ x. Called g f (x, tt) None f)) item (run.2.1 keeps k))
