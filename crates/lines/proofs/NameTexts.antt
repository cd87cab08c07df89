-- A text begins with at most one register. Assumes nothing.
use Rattle.std.proofs.Common.{◌≡◌, ℕ, ◌≤◌, List, ◌++◌, get_or, codes, decimal, sym, refl, ap, ◌∙◌, arith}
use Rattle.std.proofs.lemmas.Str.Parse.{digit_at}
use Rattle.std.proofs.lemmas.Fmt.{digits_decimal, decimal_nonempty}
use Rattle.std.proofs.lemmas.List.{get_or_append_left, append_cancel_left}
use Rattle.registers.specs.declared.banked.Banked.TheVariants as banked
use Rattle.lines.specs.declared.written.WrittenRegister.{WrittenRegister}
use Rattle.lines.specs.declared.written.WrittenRegister.TheVariants as name
use Rattle.lines.specs.declared.written.Token.TheVariants as token
use Rattle.lines.specs.Numbers.{Short, Number}
use Rattle.lines.specs.Fields.{Field}
use Rattle.lines.specs.Tokens.{TokenAt}
use Rattle.lines.proofs.Runs.{own, number_is}

-- a number begins with a digit
pub record Digit (b : ℕ) : Type 0 where
  pub low : 48 ≤ b
  pub high : b ≤ 57

pub first_digit : (n : ℕ) (rest : List ℕ) → Short n → Digit (get_or (decimal n ++ rest) 0 0)
first_digit n rest small =
    let some = decimal_nonempty n (omega arith) in
    let d = digit_at (decimal n) 0 (digits_decimal own n (omega arith)) some in
    let same = get_or_append_left (decimal n) rest 0 0 some in
    record { low = omega (arith, d, same); high = omega (arith, d, same) }

pub one_number : (t : List ℕ) (n m : ℕ) (r s : List ℕ) → Number t n r → Number t m s → (n ≡ m) × (r ≡ s)
one_number t n m r s h k =
    let i = number_is t n r h in
    let j = number_is t m s k in
    (sym i.value ∙ j.value, sym i.after ∙ j.after)

pub one_field : (w t : List ℕ) (n m : ℕ) (r s : List ℕ) → Field w t n r → Field w t m s → (n ≡ m) × (r ≡ s)
one_field w t n m r s h k =
    one_number (decimal n ++ r) n m r s (record { small = h.small; whole = refl; ends = h.ends })
    (record { small = k.small; whole = append_cancel_left w _ _ (sym h.whole ∙ k.whole); ends = k.ends })

at : (i : ℕ) (t l k : List ℕ) → t ≡ l → t ≡ k → get_or l i 0 ≡ get_or k i 0
at i t l k e f = ap (λ x. get_or x i 0) (sym e ∙ f)

pub static : (t : List ℕ) (n : ℕ) (r : List ℕ) (y : WrittenRegister) (s : List ℕ) → Field (codes "r") t n r → TokenAt t (token.Register y) s → (name.General (banked.Static n) ≡ y) × (r ≡ s)
static t n r (name.General (banked.Static m)) s h k =
    let e = one_field (codes "r") t n m r s h (record { small = k.short; whole = k.whole; ends = k.ends }) in
    (ap (λ i. name.General (banked.Static i)) e.0, e.1)
static t n r (name.General (banked.Rotating m)) s h k = absurd (omega (arith, at 1 t _ _ h.whole k.whole, first_digit n r h.small))
static t n r (name.Predicate (banked.Static m)) s h k = absurd (omega (arith, at 0 t _ _ h.whole k.whole))
static t n r (name.Predicate (banked.Rotating m)) s h k = absurd (omega (arith, at 1 t _ _ h.whole k.whole, first_digit n r h.small))

pub rotating : (t : List ℕ) (n : ℕ) (r : List ℕ) (y : WrittenRegister) (s : List ℕ) → Field (codes "rr") t n r → TokenAt t (token.Register y) s → (name.General (banked.Rotating n) ≡ y) × (r ≡ s)
rotating t n r (name.General (banked.Static m)) s h k = absurd (omega (arith, at 1 t _ _ h.whole k.whole, first_digit m s k.short))
rotating t n r (name.General (banked.Rotating m)) s h k =
    let e = one_field (codes "rr") t n m r s h (record { small = k.short; whole = k.whole; ends = k.ends }) in
    (ap (λ i. name.General (banked.Rotating i)) e.0, e.1)
rotating t n r (name.Predicate (banked.Static m)) s h k = absurd (omega (arith, at 0 t _ _ h.whole k.whole))
rotating t n r (name.Predicate (banked.Rotating m)) s h k = absurd (omega (arith, at 1 t _ _ h.whole k.whole))

pub rotating_predicate : (t : List ℕ) (n : ℕ) (r : List ℕ) (y : WrittenRegister) (s : List ℕ) → Field (codes "rp") t n r → TokenAt t (token.Register y) s → (name.Predicate (banked.Rotating n) ≡ y) × (r ≡ s)
rotating_predicate t n r (name.General (banked.Static m)) s h k = absurd (omega (arith, at 1 t _ _ h.whole k.whole, first_digit m s k.short))
rotating_predicate t n r (name.General (banked.Rotating m)) s h k = absurd (omega (arith, at 1 t _ _ h.whole k.whole))
rotating_predicate t n r (name.Predicate (banked.Static m)) s h k = absurd (omega (arith, at 0 t _ _ h.whole k.whole))
rotating_predicate t n r (name.Predicate (banked.Rotating m)) s h k =
    let e = one_field (codes "rp") t n m r s h (record { small = k.short; whole = k.whole; ends = k.ends }) in
    (ap (λ i. name.Predicate (banked.Rotating i)) e.0, e.1)
