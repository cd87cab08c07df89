-- Register numbers are equal where their numbers are. Assumes nothing.
use Rattle.std.proofs.Common.{◌≡◌, ℕ, ◌<◌, Bool, true, false, ltb, Some, Option, refl, ap, subst, rules, ltb-true}
use native.Mathlib.Bridge.{le_prop}
use Rattle.registers.specs.declared.number.NumberBelow.{NumberBelow}
use Rattle.registers.specs.Registers.{numbered, below}

pub same_number : {limit : ℕ} (n : ℕ) (p q : n < limit) → ◌≡◌ {A = NumberBelow limit} (record { number = n; below = p }) (record { number = n; below = q })
same_number {limit} n p q = ap (λ (h : n < limit). record { number = n; below = h }) (le_prop p q)

pub numbers_agree : {limit : ℕ} (x y : NumberBelow limit) → x.number ≡ y.number → x ≡ y
numbers_agree {limit} x y e =
    let P : ℕ → Type 0 = λ m. (h : m < limit) → x ≡ record { number = m; below = h } in
    subst P e (λ h. same_number x.number x.below h) y.below

pub number_there : {limit : ℕ} (n : ℕ) (p : n < limit) → ltb n limit ≡ true → ◌≡◌ {A = Option (NumberBelow limit)} (Some (record { number = n; below = p })) (numbered n)
number_there {limit} n p t = by (ltb n limit) refl t
  where
    by : (b : Bool) (e : ltb n limit ≡ b) → b ≡ true → ◌≡◌ {A = Option (NumberBelow limit)} (Some (record { number = n; below = p })) (below n b e)
    by true e t = ap (λ (r : NumberBelow limit). Some r) (same_number n p (ltb-true n limit e))
    by false e t = search rules
