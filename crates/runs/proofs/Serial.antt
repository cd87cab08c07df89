-- That the assumptions can be met. Assumes nothing.
use Rattle.std.proofs.Common.{◌≡◌, ℕ, zero, suc, ◌≤◌, Bool, true, false, cond, ◌&&◌, ◌||◌, ltb, List, [], ◌∷◌, ◌++◌, refl, ap, ◌∙◌, arith}
use Rattle.registers.specs.declared.register.Place.TheVariants as place
use Rattle.histories.specs.Examples.{serial}
use Rattle.histories.proofs.Serial.{serial_is_kept_lem}
use Rattle.histories.proofs.Dependences.{kept_is_whole_same_lem}
use Rattle.runs.specs.Machine.{Write, writes_to}
use Rattle.runs.specs.Marks.{mark_results}
use Rattle.runs.specs.Cells.{results_within}
use Rattle.runs.specs.Assumptions.{MarksWithinAccesses, MarksWithinRegisters, SerialRunsAsWritten}

writes-to-++ : {V : Type 0} (q : ℕ) (xs ys : List (Write V)) → writes_to q (xs ++ ys) ≡ (writes_to q xs || writes_to q ys)
writes-to-++ q [] ys = refl
writes-to-++ q (x ∷ xs) ys = let ih = writes-to-++ q xs ys in grind arith

mark_to : (c : ℕ) (w : ℕ → Bool) (i q : ℕ) → writes_to q (mark_results c w i) ≡ (ltb q c && w q)
mark_to zero w i q = grind arith
mark_to (suc c) w i q = writes-to-++ q (mark_results c w i) (cond (w c) (record { to = c; value = i } ∷ []) []) ∙ by (w c) refl (mark_to c w i q)
  where
    by : (b : Bool) → w c ≡ b → writes_to q (mark_results c w i) ≡ (ltb q c && w q) →
        (writes_to q (mark_results c w i) || writes_to q (cond b (record { to = c; value = i } ∷ []) [])) ≡ (ltb q (suc c) && w q)
    by true e ih = grind arith
    by false e ih = grind arith

pub marks_within_accesses : MarksWithinAccesses
marks_within_accesses c register_of p s latency = record {
  depends = λ i l r u m n f g. refl;
  only_registers = λ i q l r m e. let x = mark_to c (λ v. (p.accesses (place.Register (register_of v))).writes i) i q in grind arith;
  only_memory = λ i l r m n e. ap (λ b. cond b i n) e;
}

in-++ : {V : Type 0} (c : ℕ) (xs ys : List (Write V)) → results_within c xs ≡ true → results_within c ys ≡ true → results_within c (xs ++ ys) ≡ true
in-++ c [] ys g h = h
in-++ c (x ∷ xs) ys g h = let ih = in-++ c xs ys in grind arith

mark_fits : (n c : ℕ) (w : ℕ → Bool) (i : ℕ) → n ≤ c → results_within c (mark_results n w i) ≡ true
mark_fits zero c w i l = refl
mark_fits (suc n) c w i l = in-++ c (mark_results n w i) (cond (w n) (record { to = n; value = i } ∷ []) []) (mark_fits n c w i (omega arith)) (by (w n))
  where
    by : (b : Bool) → results_within c (cond b (record { to = n; value = i } ∷ []) []) ≡ true
    by true = grind arith
    by false = refl

pub marks_within_registers : MarksWithinRegisters
marks_within_registers c register_of p s latency i l r m = mark_fits c c (λ q. (p.accesses (place.Register (register_of q))).writes i) i (omega arith)

pub serial_runs_as_written : SerialRunsAsWritten
serial_runs_as_written c register_of p d latency bounds one_way timing =
    let sk = serial_is_kept_lem p d bounds one_way in (
      record { sound = sk.0; timing = timing },
      λ x. (kept_is_whole_same_lem p (serial d) sk.0).0 sk.1 latency timing x,
    )
