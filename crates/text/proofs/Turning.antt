-- One line more, and the lines of a whole text. Assumes nothing.
use Rattle.std.proofs.Common.{◌≡◌, ℕ, List, [], ◌∷◌, Some, None, Ok, Err, Option, Result, IfSome, sym, subst, arith, MatchResult}
use Rattle.std.specs.Option.{ok_or}
use Rattle.std.proofs.lemmas.Option.{none-some}
use Rattle.std.proofs.lemmas.Result.{MatchResult-weaker}
use Rattle.operations.specs.declared.refusal.Refusal.{Refusal}
use Rattle.operations.specs.declared.refusal.Refusal.TheVariants.{Unreadable}
use Rattle.text.specs.Texts.{lines_of, Taken, end, next, refused, unreadable}
use Rattle.text.specs.Turns.{GoesOn, Stops, Leads}

module _ {S W : Type 0} (Line : List ℕ → W → Type 0) (step : S → W → Result S Refusal) where
  pub unread_stops : (s : S) (l : List ℕ) (r : Option W) (e : Refusal) → ((w : W) → Line l w → r ≡ Some w) → ok_or r Unreadable ≡ Err e → Stops Line step s l e
  unread_stops s l None e complete is ls =
      let u : Unreadable ≡ e = cc in
      subst (λ (d : Refusal). Taken Line step s (l ∷ ls) (Err (d, l))) u (unreadable s l ls (λ w h. none-some w (complete w h)))
  unread_stops s l (Some w) e complete is ls = let z : ◌≡◌ {A = ℕ} 0 1 = cc in absurd (omega arith)

  pub step_turns : {T : Type 0} (view : T → S) (s : S) (l : List ℕ) (o : Option W) (w : W) (r : Result T Refusal) → IfSome o (λ v. Line l v) → o ≡ Some w → MatchResult r (λ t. step s w ≡ Ok (view t)) (λ e. step s w ≡ Err e) → MatchResult r (λ t. GoesOn Line step s l (view t)) (λ e. Stops Line step s l e)
  step_turns view s l o w r sound is cases =
      let h : Line l w = subst (λ p. IfSome p (λ v. Line l v)) is sound in
      MatchResult-weaker r cases (λ t e ls o taken. next s l ls w (view t) o h e taken) (λ x e ls. refused s l ls w x h e)

  pub ends : (s t : S) (text rest : List ℕ) → Leads Line step s text t rest → rest ≡ [] → Taken Line step s (lines_of text) (Ok t)
  ends s t text rest before none = before (Ok t) (subst (λ r. Taken Line step t (lines_of r) (Ok t)) (sym none) (end t))
