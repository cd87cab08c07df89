-- Numbers in a line, token by token. Assumes nothing.
use Rattle.std.proofs.Common.{◌≡◌, ℕ, Bool, true, false, Decides, ap, List, [], ◌++◌, pos, Some, None, codes, decimal, Option, sym, refl, ◌∙◌, append-nil, arith}
use Rattle.std.specs.Bool.{then_some}
use Rattle.std.proofs.lemmas.Bool.{false≢true}
use Rattle.lines.specs.declared.written.WrittenPosition.{WrittenPosition}
use Rattle.lines.specs.declared.written.Token.TheVariants as token
use Rattle.lines.specs.Lines.{position_text, ShortPosition}
use Rattle.lines.specs.Numbers.{Short}
use Rattle.lines.specs.Said.{Says, Passes, Reads, Whole}
use Rattle.lines.proofs.NameTexts.{first_digit}
use Rattle.lines.proofs.Operands.{first}

-- a number up to the end of the text
pub number_read : (t0 t1 : List ℕ) (r : Option ℕ) → Says (λ n. token.Literal (pos n)) t0 r t1 → (n : ℕ) → Short n → t0 ≡ decimal n → (r ≡ Some n) × (t1 ≡ [])
number_read t0 t1 r s n short e = s.complete n [] (record { short = short; whole = e ∙ sym (append-nil (decimal n)); ends = tt })

pub number_last : (t0 t1 : List ℕ) (n : ℕ) (b : Bool) → Decides b (t1 ≡ []) → Says (λ n. token.Literal (pos n)) t0 (Some n) t1 → Whole decimal Short t0 (then_some b n)
number_last t0 t1 n true d s = record {
  sound = (s.sound.short, s.sound.whole ∙ ap (λ l. decimal n ++ l) (d.0 refl) ∙ append-nil (decimal n));
  complete = λ m short e. (number_read t0 t1 (Some n) s m short e).0;
}
number_last t0 t1 n false d s = record { sound = tt; complete = λ m short e. absurd (false≢true (d.1 (number_read t0 t1 (Some n) s m short e).1)) }

-- an operation that is not placed: its line begins with no digit
pub unplaced_read : (t0 t1 : List ℕ) → Passes (codes "- ") t0 (Some tt) t1 → Reads position_text ShortPosition t0 (Some None) t1
unplaced_read t0 t1 p = record { sound = (tt, p.sound); complete = by }
  where
    by : (x : Option WrittenPosition) (after : List ℕ) → ShortPosition x → t0 ≡ position_text x after → (Some None ≡ Some x) × (t1 ≡ after)
    by None after h e = (refl, (p.complete after e).1)
    by (Some x) after h e = let d = first_digit x.cycle (codes ":" ++ (decimal x.slot ++ (codes " " ++ after))) h.0 in absurd (omega (arith, first (sym p.sound ∙ e), d.low, d.high))
