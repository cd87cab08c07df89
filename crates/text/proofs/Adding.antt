-- An operation of a program, added and placed. Assumes nothing.
use Rattle.std.proofs.Common.{◌≡◌, ℕ, Bool, true, false, cond, Ok, Err, Option, Result, sym, refl, ap, ◌∙◌, subst, MatchResult}
use Rattle.std.proofs.lemmas.Result.{MatchResult-at_ok, MatchResult-at_err}
use Rattle.operations.specs.declared.refusal.Refusal.{Refusal}
use Rattle.operations.specs.declared.refusal.Refusal.TheVariants.{NoSuch, BeyondLimit}
use Rattle.operations.specs.declared.raw.RawOperation.{RawOperation}
use Rattle.blocks.specs.Steps.{Outcome, Did}
use Rattle.blocks.specs.Calls.{State, add_call}
use Rattle.lines.specs.declared.written.WrittenPosition.{WrittenPosition}
use Rattle.lines.specs.declared.written.WrittenOperation.{WrittenOperation}
use Rattle.lines.specs.Raw.{raw_operation, literals_held}
use Rattle.text.specs.Programs.{slot_there, placed_at, then_placed, operation_call}
use Rattle.text.proofs.Placing.{told}

pub told_ok : {X S : Type 0} (s t : S) (r : Result X Refusal) (o : Outcome X S) (x : X) → Did s t r o → r ≡ Ok x → o ≡ Ok (x, t)
told_ok s t r o x did is = MatchResult-at_ok (λ y. o ≡ Ok (y, t)) (λ e. o ≡ Err e) x is (told s t r o did)

pub told_err : {X S : Type 0} (s t : S) (r : Result X Refusal) (o : Outcome X S) (e : Refusal) → Did s t r o → r ≡ Err e → o ≡ Err e
told_err s t r o e did is = MatchResult-at_err (λ y. o ≡ Ok (y, t)) (λ d. o ≡ Err d) e is (told s t r o did)

operation_is : (s : State) (n : ℕ) (q : Option WrittenPosition) (w : WrittenOperation) (raw : RawOperation) (o : Outcome ℕ State) (h : Bool) → true ≡ slot_there s q → raw ≡ raw_operation w → add_call s n raw ≡ o → h ≡ literals_held w.sources → operation_call s n q w ≡ then_placed n q h o
operation_is s n q w raw o h there is added held =
    ap (λ b. cond b (then_placed n q (literals_held w.sources) (add_call s n (raw_operation w))) (Err NoSuch)) (sym there)
    ∙ ap (λ p. then_placed n q (literals_held w.sources) p) (ap (add_call s n) (sym is) ∙ added)
    ∙ ap (λ b. then_placed n q b o) (sym held)

pub not_added :
    (s t : State) (n : ℕ) (q : Option WrittenPosition) (w : WrittenOperation) (raw : RawOperation) (r : Result ℕ Refusal) (e : Refusal)
    → true ≡ slot_there s q
    → raw ≡ raw_operation w
    → Did s t r (add_call s n raw)
    → r ≡ Err e
    → operation_call s n q w ≡ Err e
not_added s t n q w raw r e there is did at = operation_is s n q w raw (Err e) (literals_held w.sources) there is (told_err s t r (add_call s n raw) e did at) refl

pub too_large :
    (s t : State) (n : ℕ) (q : Option WrittenPosition) (w : WrittenOperation) (raw : RawOperation) (r : Result ℕ Refusal) (i : ℕ)
    → true ≡ slot_there s q
    → raw ≡ raw_operation w
    → Did s t r (add_call s n raw)
    → r ≡ Ok i
    → false ≡ literals_held w.sources
    → operation_call s n q w ≡ Err BeyondLimit
too_large s t n q w raw r i there is did at held = operation_is s n q w raw (Ok (i, t)) false there is (told_ok s t r (add_call s n raw) i did at) held

pub then_told :
    (s t u : State) (n : ℕ) (q : Option WrittenPosition) (w : WrittenOperation) (raw : RawOperation) (r : Result ℕ Refusal) (i : ℕ) (a : Result (Unit {0}) Refusal)
    → true ≡ slot_there s q
    → raw ≡ raw_operation w
    → Did s t r (add_call s n raw)
    → r ≡ Ok i
    → true ≡ literals_held w.sources
    → MatchResult a (λ _. placed_at t n i q ≡ Ok (tt, u)) (λ e. placed_at t n i q ≡ Err e)
    → MatchResult a (λ _. operation_call s n q w ≡ Ok (tt, u)) (λ e. operation_call s n q w ≡ Err e)
then_told s t u n q w raw r i a there is did at held =
    let P : Outcome (Unit {0}) State → Type 0 = λ o. MatchResult a (λ _. o ≡ Ok (tt, u)) (λ e. o ≡ Err e) in
    subst P (sym (operation_is s n q w raw (Ok (i, t)) true there is (told_ok s t r (add_call s n raw) i did at) held))
