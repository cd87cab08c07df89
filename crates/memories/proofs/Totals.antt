-- A fold whose steps may break off, as the recursion over the list. Assumes nothing.
use Rattle.std.proofs.Common.{◌≡◌, ◌+◌, List, [], ◌∷◌, ◌++◌, map, length, drop, Some, None, Option, MatchOption, sym, refl, ap, ap₂, ◌∙◌, subst, append-nil}
use Rattle.std.specs.declared.ops.ControlFlow.{ControlFlow}
use Rattle.std.specs.Fn.{Called}
use Rattle.std.specs.List.{FoldsTo}
use Rattle.std.specs.Option.{option_and_then}
use Rattle.std.specs.ControlFlow.{continue_value}
use Rattle.std.specs.Iterator.{Yields, TryFoldTurn, TryFoldsItems}
use Rattle.std.proofs.lemmas.Iterator.{YieldsList}
use Rattle.std.proofs.lemmas.Iterator.Consumers.{YieldsList-so_far, YieldsList-turn, YieldsList-end}
use Rattle.std.proofs.lemmas.List.{drop_more, take-append-drop}
use denote.Param.Members.{Mut}

abbrev pub total : {B C : Type 0} → (B → C → Option B) → B → List C → Option B
total h b [] = Some b
total h b (c ∷ cs) = option_and_then (λ d. total h d cs) (h b c)

abbrev pub Branches : {B E : Type 0} → Option B → ControlFlow E B → Type 0
Branches r k = r ≡ continue_value k

module _ {A B C F : Type 0} (E : Type 0) (g : Mut F (B × (A × Unit {0})) (Option B)) (v : A → C) (h : B → C → Option B) (f : F)
    (each : (b : B) (x : A) (r : Option B) (q : F) → Called g f (b, (x, tt)) r q → (q ≡ f) × (r ≡ h b (v x))) where
  turns : (xs : List A) (p : F) (b : B) (q : F × B) (rest : List C) → p ≡ f → FoldsTo {P = F × B} (TryFoldTurn g (Branches {E = E})) (p, b) xs q →
      (q.0 ≡ f) × (total h b (map v xs ++ rest) ≡ total h q.1 rest)
  turns [] p b q rest same e = (sym (ap (λ (k : F × B). k.0) e) ∙ same, ap (λ (k : F × B). total h k.1 rest) e)
  turns (x ∷ xs) p b q rest same e =
      let m = e.0 in
      let called = each b x e.1.0 m.0 (subst (λ k. Called g k (b, (x, tt)) e.1.0 m.0) same e.1.1) in
      let next = turns xs m.0 m.1 q rest called.0 e.2 in
      (next.0, ap (option_and_then (λ d. total h d (map v xs ++ rest))) (sym called.1 ∙ e.1.2) ∙ next.1)

  module _ {S : Type 0} {steps : S → Option A → S → Type 0} {s : S} {all : List C} (b : B) (r : Option B) (yields : YieldsList steps v s all) where
    finish : (xs : List A) (o : Option A) (j : F) (a : B) (t u : S) → Yields steps s xs t → steps t o u → FoldsTo {P = F × B} (TryFoldTurn g (Branches {E = E})) (f, b) xs (j, a) →
        MatchOption o (r ≡ Some a) (λ x. (w : Option B) × (k : F) × (e : E) × Called g j (a, (x, tt)) w k × (w ≡ None) × (r ≡ None)) → r ≡ total h b all
    finish xs None j a t u y st fo m =
        let en = YieldsList-end yields xs t y None u refl st in
        let tu = turns xs f b (j, a) [] refl fo in
        m ∙ sym tu.1 ∙ ap (total h b) (append-nil (map v xs) ∙ en.0)
    finish xs (Some x) j a t u y st fo m =
        let p = YieldsList-turn yields xs t y (Some x) u x refl st in
        let q = YieldsList-so_far yields xs t y in
        let rest = drop (length xs + 1) all in
        let split : all ≡ map v xs ++ (v x ∷ rest) = sym (take-append-drop (length xs) all) ∙ ap₂ (λ k l. k ++ l) (sym q) (drop_more all (length xs) (v x) p.0 ∙ ap (λ c. c ∷ rest) (sym p.1)) in
        let tu = turns xs f b (j, a) (v x ∷ rest) refl fo in
        let called = each a x m.0 m.1 (subst (λ k. Called g k (a, (x, tt)) m.0 m.1) tu.0 m.3) in
        m.5 ∙ sym (ap (total h b) split ∙ tu.1 ∙ ap (option_and_then (λ d. total h d rest)) (sym called.1 ∙ m.4))

    pub total_from_try_fold : (u : S) → TryFoldsItems steps g (Branches {E = E}) (λ (e : E) k. k ≡ None) s f b r u → r ≡ total h b all
    total_from_try_fold u ran = finish ran.0 ran.1 ran.2 ran.3 ran.4.0 u ran.4.1 ran.4.2 ran.5 ran.6
