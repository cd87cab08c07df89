-- Literals as text, by their sign. Assumes nothing.
use Rattle.std.proofs.Common.{◌≡◌, ℕ, suc, ◌-◌, ◌<◌, List, ◌++◌, get_or, ℤ, pos, negsuc, codes, decimal, sym, ap, ◌∙◌, arith}
use Rattle.lines.specs.declared.written.Token.TheVariants as token
use Rattle.lines.specs.Fields.{Field}
use Rattle.lines.specs.Tokens.{TokenAt}
use Rattle.lines.proofs.NameTexts.{first_digit, one_field}

-- a minus and a number: the literal is that number's negation
pub negative : (t : List ℕ) (n : ℕ) (r : List ℕ) (z : ℤ) (s : List ℕ) → Field (codes "-") t n r → TokenAt t (token.Literal z) s → (0 < n) × (negsuc (n - 1) ≡ z) × (r ≡ s)
negative t n r (pos m) s h k = absurd (omega (arith, ap (λ l. get_or l 0 0) (sym h.whole ∙ k.whole), first_digit m s k.short))
negative t n r (negsuc m) s h k =
    let e = one_field (codes "-") t n (suc m) r s h (record { small = k.short; whole = k.whole; ends = k.ends }) in
    (omega (arith, e.0), ap negsuc (omega (arith, e.0)), e.1)

pub negative_at : (t : List ℕ) (n : ℕ) (r : List ℕ) → 0 < n → Field (codes "-") t n r → TokenAt t (token.Literal (negsuc (n - 1))) r
negative_at t n r some h =
    let back : n ≡ suc (n - 1) = omega arith in
    record { short = omega (arith, h.small); whole = h.whole ∙ ap (λ m. codes "-" ++ (decimal m ++ r)) back; ends = h.ends }
