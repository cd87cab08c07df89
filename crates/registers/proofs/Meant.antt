-- A number as it is handed in is below a limit if and only if the number is. Assumes nothing.
use Rattle.std.proofs.Common.{◌≡◌, ℕ, ◌≤◌, Bool, true, false, cond, ltb, None, sym, ◌∙◌, refl, arith}
use Rattle.std.proofs.lemmas.Bool.{false≢true}
use Rattle.std.proofs.lemmas.Bool.Decides.{nat_tests}
use Rattle.registers.specs.Registers.{numbered, below}
use Rattle.registers.specs.Names.{handed}

none_there : {limit : ℕ} (n : ℕ) (b : Bool) (e : ltb n limit ≡ b) → b ≡ false → below n b e ≡ None
none_there n true e h = absurd (false≢true (sym h))
none_there n false e h = refl

beyond : (limit n : ℕ) → limit ≤ 255 → ltb n 255 ≡ false → ltb n limit ≡ false
beyond limit n l h = grind (arith, nat_tests)

-- a number below a limit of at most 255 is handed in as it is, and every other as one that is not below it either
pub number_handed : (n limit : ℕ) → limit ≤ 255 → numbered {limit = limit} (handed n) ≡ numbered n
number_handed n limit l = by (ltb n 255) refl
  where
    by : (b : Bool) → ltb n 255 ≡ b → numbered {limit = limit} (cond b n 255) ≡ numbered n
    by true e = refl
    by false e = none_there 255 (ltb 255 limit) refl (beyond limit 255 l refl) ∙ sym (none_there n (ltb n limit) refl (beyond limit n l e))
