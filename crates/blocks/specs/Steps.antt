-- What a call answers, and what it leaves. Assumes nothing.
use Rattle.std.specs.Prelude.{◌≡◌, Ok, Err, Result}
use Rattle.operations.specs.declared.refusal.Refusal.{Refusal}

-- an answer with the state after it, or a refusal
abbrev pub Outcome : Type 0 → Type 0 → Type 0
Outcome X S = Result (X × S) Refusal

abbrev pub answer : {X S : Type 0} → Outcome X S → Result X Refusal
answer (Ok p) = Ok p.0
answer (Err e) = Err e

-- a refusal leaves all as it was
abbrev pub after : {X S : Type 0} → S → Outcome X S → S
after s (Ok p) = p.1
after s (Err e) = s

-- a call that went from s to t and answered r did what the outcome says
pub record Did {X S : Type 0} (s t : S) (r : Result X Refusal) (o : Outcome X S) : Type 0 where
  pub answered : r ≡ answer o
  pub left : t ≡ after s o
