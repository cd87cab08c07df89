-- One token read, and what is said by it. Assumes nothing.
use Rattle.std.proofs.Common.{◌≡◌, ℕ, true, false, List, ◌++◌, drop, IfSome, Some, None, Option, sym, subst}
use Rattle.std.proofs.lemmas.Bool.{false≢true}
use Rattle.std.specs.Option.{is_some}
use Rattle.lines.specs.declared.mark.Mark.{Mark}
use Rattle.lines.specs.Marks.{marks_text}
use Rattle.lines.specs.Said.{Passes, Whole}

pub some_same : {X : Type 0} (x y : X) → Some x ≡ Some y → x ≡ y
some_same x y e = cc e

pub none_some : {X : Type 0} (x : X) → ◌≡◌ {A = Option X} None (Some x) → ⊥
none_some x e = subst (λ o. IfSome o (λ _. ⊥)) e tt

-- the first i of the marks have been read from text to rest
pub record Passing (ms : List Mark) (i : ℕ) (text rest : List ℕ) : Type 0 where
  pub whole : (after : List ℕ) → rest ≡ marks_text (drop i ms) ++ after → text ≡ marks_text ms ++ after
  pub only : (after : List ℕ) → text ≡ marks_text ms ++ after → rest ≡ marks_text (drop i ms) ++ after

-- what was tried has passed, or has not
pub passed : (w text rest : List ℕ) (r : Option (Unit {0})) → true ≡ is_some r → Passes w text r rest → Passes w text (Some tt) rest
passed w text rest None e p = absurd (false≢true (sym e))
passed w text rest (Some u) e p = p

pub refused : (w text rest : List ℕ) (r : Option (Unit {0})) → false ≡ is_some r → Passes w text r rest → Passes w text None rest
refused w text rest None e p = p
refused w text rest (Some u) e p = absurd (false≢true e)

-- nothing is read of the text as a whole
pub whole_none : {X : Type 0} (line : X → List ℕ) (Short : X → Type 0) (text : List ℕ) (r : Option X) → r ≡ None → ((x : X) → Short x → text ≡ line x → ⊥) → Whole line Short text r
whole_none line Short text r e never = subst (Whole line Short text) (sym e) (record { sound = tt; complete = λ x short h. absurd (never x short h) })
