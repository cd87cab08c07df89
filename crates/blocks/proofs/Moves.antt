-- What adding to a block comes to. Assumes nothing.
use Rattle.std.proofs.Common.{◌≡◌, ℕ, ◌<◌, ◌≤◌, Bool, true, false, cond, ltb, leb, length, Ok, Err, Result, sym, refl, ap, ◌∙◌, subst, arith, le-ltb, lt-ltb}
use Rattle.std.proofs.lemmas.Bool.Decides.{nat_tests}
use Rattle.std.specs.Result.{IsErrAnd, MatchResult}
use Rattle.operations.specs.declared.operation.Operation.{Operation}
use Rattle.operations.specs.declared.raw.RawOperation.{RawOperation}
use Rattle.operations.specs.declared.refusal.Refusal.{Refusal}
use Rattle.operations.specs.declared.refusal.Refusal.TheVariants.{NoSuch, BlockFull, WrongOperands}
use Rattle.operations.specs.Typing.{names_exist, typed_of}
use Rattle.blocks.specs.Steps.{Outcome, answer, after, Did}
use Rattle.blocks.specs.Model.{Body, append, topmost, add_step}
use Rattle.blocks.proofs.Missing.{missing, unfit}

pub refused : {X S : Type 0} (s : S) (o : Outcome X S) (e : Refusal) → o ≡ Err e → Did {X = X} s s (Err e) o
refused s o e h = record { answered = sym (ap answer h); left = sym (ap (after s) h) }

pub done : {X S : Type 0} (s t : S) (r : X) (o : Outcome X S) (p : X × S) → o ≡ Ok p → r ≡ p.0 → t ≡ p.1 → Did {X = X} s t (Ok r) o
done s t r o p h e f = record { answered = ap (λ x. Ok x) e ∙ sym (ap answer h); left = f ∙ sym (ap (after s) h) }

known_from : (q : RawOperation) (x : Operation) (n : Bool) → names_exist q ≡ n → typed_of q ≡ Ok x → n ≡ true
known_from q x true e h = refl
known_from q x false e h = let m = missing q e in let z : ◌≡◌ {A = ℕ} 0 1 = cc in absurd (omega arith)

-- where the operation is typed, add goes by whether there is room
added : (b : Body) (q : RawOperation) (x : Operation) → typed_of q ≡ Ok x → add_step b q ≡ cond (ltb (length b.entries) 64) (append b (Ok x)) (Err BlockFull)
added b q x h =
    let e = known_from q x (names_exist q) refl h in
    ap (λ n. cond n (cond (ltb (length b.entries) 64) (append b (typed_of q)) (Err BlockFull)) (Err NoSuch)) e
    ∙ ap (λ t. cond (ltb (length b.entries) 64) (append b t) (Err BlockFull)) h

pub add_full : (b : Body) (q : RawOperation) (x : Operation) → typed_of q ≡ Ok x → 64 ≤ length b.entries → add_step b q ≡ Err BlockFull
add_full b q x h f = added b q x h ∙ ap (λ n. cond n (append b (Ok x)) (Err BlockFull)) (le-ltb (length b.entries) 64 f)

pub add_done : (b : Body) (q : RawOperation) (x : Operation) → typed_of q ≡ Ok x → length b.entries < 64 → add_step b q ≡ append b (Ok x)
add_done b q x h f = added b q x h ∙ ap (λ n. cond n (append b (Ok x)) (Err BlockFull)) (lt-ltb (length b.entries) 64 f)

full_or : (l : ℕ) (o : Outcome ℕ Body) → o ≡ Err WrongOperands → cond (ltb l 64) o (Err BlockFull) ≡ Err (topmost WrongOperands (leb 64 l))
full_or l o h = grind (arith, nat_tests)

pub add_refused : (b : Body) (q : RawOperation) (e : Refusal) → typed_of q ≡ Err e → add_step b q ≡ Err (topmost e (leb 64 (length b.entries)))
add_refused b q e h = by (names_exist q) refl
  where
    by : (n : Bool) → names_exist q ≡ n → add_step b q ≡ Err (topmost e (leb 64 (length b.entries)))
    by true k =
        let w = unfit q e k h in
        let o : Outcome ℕ Body = append b (typed_of q) in
        ap (λ n. cond n (cond (ltb (length b.entries) 64) o (Err BlockFull)) (Err NoSuch)) k
        ∙ full_or (length b.entries) o (ap (append b) (h ∙ ap (λ x. Err x) w))
        ∙ ap (λ x. Err (topmost x (leb 64 (length b.entries)))) (sym w)
    by false k =
        let m = missing q k in
        let w : NoSuch ≡ e = cc in
        ap (λ n. cond n (cond (ltb (length b.entries) 64) (append b (typed_of q)) (Err BlockFull)) (Err NoSuch)) k
        ∙ ap (λ x. Err (topmost x (leb 64 (length b.entries)))) w

-- where an error that `map_err` made comes from
pub error_from : {T D E : Type 0} (r : Result T E) (s : Result T D) (P : E → D → Type 0) (d : D) → MatchResult r (λ x. s ≡ Ok x) (λ e. IsErrAnd s (P e)) → s ≡ Err d → (e : E) × (r ≡ Err e) × P e d
error_from (Ok x) s P d m h = let y : ◌≡◌ {A = ℕ} 0 1 = cc in absurd (omega arith)
error_from (Err e) s P d m h = (e, refl, subst (λ s. IsErrAnd s (P e)) h m)
