-- What is alike by a test of numbers is so both ways round, and along a chain, as the numbers are. Assumes nothing.
use Rattle.std.specs.Prelude.{◌≡◌, ℕ, Bool, true, refl}
use Rattle.std.proofs.lemmas.Bool.{false≢true}
use Rattle.std.specs.Cmp.{IsPartialEquivalence, IsEquivalence}
use Rattle.registers.specs.declared.banked.Banked.{Banked}
use Rattle.registers.specs.declared.banked.Banked.TheVariants as banked
use Rattle.registers.specs.Registers.{alike}

module _ {N : Type 0} {bits : ℕ} {test : N → N → Bool} where
  both_ways : ((m n : N) → test m n ≡ test n m) → (x y : Banked N bits) → alike test x y ≡ alike test y x
  both_ways s (banked.Static m) (banked.Static n) = s m n
  both_ways s (banked.Static m) (banked.Rotating n) = refl
  both_ways s (banked.Rotating m) (banked.Static n) = refl
  both_ways s (banked.Rotating m) (banked.Rotating n) = s m n

  along : ((l m n : N) → test l m ≡ true → test m n ≡ true → test l n ≡ true) → (x y z : Banked N bits) → alike test x y ≡ true → alike test y z ≡ true → alike test x z ≡ true
  along t (banked.Static l) (banked.Static m) (banked.Static n) p q = t l m n p q
  along t (banked.Rotating l) (banked.Rotating m) (banked.Rotating n) p q = t l m n p q
  along t (banked.Static l) (banked.Static m) (banked.Rotating n) p q = absurd (false≢true q)
  along t (banked.Static l) (banked.Rotating m) z p q = absurd (false≢true p)
  along t (banked.Rotating l) (banked.Static m) z p q = absurd (false≢true p)
  along t (banked.Rotating l) (banked.Rotating m) (banked.Static n) p q = absurd (false≢true q)

  pub alike_per : IsPartialEquivalence test → IsPartialEquivalence (alike {bits = bits} test)
  alike_per e = record { symm = both_ways e.symm; trans = along e.trans }

  itself : IsEquivalence test → (x : Banked N bits) → alike test x x ≡ true
  itself e (banked.Static n) = e.refl n
  itself e (banked.Rotating n) = e.refl n

  same_answers : ((l m n : N) → test l m ≡ true → test l n ≡ test m n) → (x y z : Banked N bits) → alike test x y ≡ true → alike test x z ≡ alike test y z
  same_answers c (banked.Static l) (banked.Static m) (banked.Static n) p = c l m n p
  same_answers c (banked.Rotating l) (banked.Rotating m) (banked.Rotating n) p = c l m n p
  same_answers c (banked.Static l) (banked.Static m) (banked.Rotating n) p = refl
  same_answers c (banked.Static l) (banked.Rotating m) z p = absurd (false≢true p)
  same_answers c (banked.Rotating l) (banked.Static m) z p = absurd (false≢true p)
  same_answers c (banked.Rotating l) (banked.Rotating m) (banked.Static n) p = refl

  pub alike_equiv : IsEquivalence test → IsEquivalence (alike {bits = bits} test)
  alike_equiv e = record { refl = itself e; symm = both_ways e.symm; congr = same_answers e.congr }
