-- A run of digits, and the number that it writes. Assumes nothing.
use Rattle.std.proofs.Common.{◌≡◌, ℕ, zero, suc, ◌-◌, ◌^◌, ◌<◌, ◌≤◌, true, false, cond, leb, List, [], ◌∷◌, ◌++◌, length, get_or, take, drop, decimal, sym, refl, ap, ◌∙◌, subst, ⊎_elim, arith, take-append-drop, rules}
use Rattle.std.specs.Char.{is_ascii_digit, digit_value as digitValue}
use Rattle.std.specs.Int.{IsInRange}
use Rattle.std.specs.List.{prefix_len}
use Rattle.std.specs.Str.Parse.{AllDigits, digits_value as value}
use Rattle.std.proofs.lemmas.List.{take_rest, take_at, drop_at, length-take-le, get_or-take}
use Rattle.std.proofs.lemmas.Bool.{and_parts, and_from, leb-true, le-leb, cond-true, cond-false, cases_Bool, cases_eq, cases_lt}
use Rattle.std.proofs.lemmas.Str.Parse.{IsNumeralModel, numerals_by_value, tells_digits, digit_from_value, digits_value_short}
use Rattle.std.proofs.lemmas.Fmt.{decimal-digits_value, digits_decimal, digits_value-decimal, length-decimal-le, decimal_nonempty, first_decimal, decimal_digit}
use Rattle.lines.specs.Numbers.{run, NoDigit, Number}

pub own : IsNumeralModel (AllDigits 10) (value 10)
own = numerals_by_value _ tells_digits

-- it is std's count of the digits at the front
pub run_is : (t : List ℕ) → prefix_len is_ascii_digit t ≡ run t
run_is [] = refl
run_is (b ∷ bs) = ap (λ n. cond (is_ascii_digit b) n 0) (omega (arith, run_is bs))

digit_test : (b : ℕ) → is_ascii_digit b ≡ true → IsInRange 48 57 b
digit_test b e = let p = and_parts (leb 48 b) (leb b 57) e in (leb-true 48 b p.0, leb-true b 57 p.1)

test_digit : (b : ℕ) → IsInRange 48 57 b → is_ascii_digit b ≡ true
test_digit b h = and_from _ _ (le-leb 48 b h.0) (le-leb b 57 h.1)

digit_value : (b : ℕ) → IsInRange 48 57 b → digitValue b < 10
digit_value b h = search rules

-- what the front run of digits is
pub record Front (t : List ℕ) : Type 0 where
  pub within : run t ≤ length t
  pub all : AllDigits 10 (take (run t) t)
  pub ends : NoDigit (drop (run t) t)

pub front : (t : List ℕ) → Front t
front [] = record { within = omega arith; all = tt; ends = tt }
front (b ∷ bs) =
    let P : ℕ → Type 0 = λ n. (n ≤ length (b ∷ bs)) × AllDigits 10 (take n (b ∷ bs)) × NoDigit (drop n (b ∷ bs)) in
    let ih = front bs in
    let r : P (run (b ∷ bs)) =
    ⊎_elim
    (λ e. subst P (sym (cond-true (is_ascii_digit b) (suc (run bs)) 0 e)) (omega (arith, ih.within), (digit_value b (digit_test b e), ih.all), ih.ends))
    (λ e. subst P (sym (cond-false (is_ascii_digit b) (suc (run bs)) 0 e)) (omega arith, tt, λ h. let z : true ≡ false = sym (test_digit b h) ∙ e in search rules))
    (cases_Bool (is_ascii_digit b))
    in
    record { within = r.0; all = r.1; ends = r.2 }

-- digits and then no digit: the run is the digits
pub run_digits : (ds rest : List ℕ) → AllDigits 10 ds → NoDigit rest → run (ds ++ rest) ≡ length ds
run_digits [] [] d e = refl
run_digits [] (b ∷ bs) d e = ⊎_elim (λ t. absurd (e (digit_test b t))) (λ f. cond-false (is_ascii_digit b) (suc (run bs)) 0 f) (cases_Bool (is_ascii_digit b))
run_digits (c ∷ cs) rest d e = cond-true (is_ascii_digit c) _ _ (test_digit c (digit_from_value c d.0)) ∙ ap suc (run_digits cs rest d.1 e)

digits_take : (i : ℕ) (ds : List ℕ) → AllDigits 10 ds → AllDigits 10 (take i ds)
digits_take zero ds d = tt
digits_take (suc i) [] d = tt
digits_take (suc i) (c ∷ cs) d = (d.0, digits_take i cs d.1)

pub small_front : (ds : List ℕ) (i : ℕ) → AllDigits 10 ds → length ds ≤ 10 → i < length ds → value 10 (take i ds) < 1000000000
small_front ds i d l h = digits_value_short own (take i ds) 9 (digits_take i ds d) (omega (arith, length-take-le i ds (omega arith)))

pub value_of_digit : (b : ℕ) → IsInRange 48 57 b → digitValue b ≡ b - 48
value_of_digit b h = search rules

ne_zero : (n : ℕ) → (n ≡ 0 → ⊥) → 0 < n
ne_zero zero h = absurd (h refl)
ne_zero (suc n) h = omega arith

-- a number at the front of t is its run of digits
pub record Is (t : List ℕ) (n : ℕ) (rest : List ℕ) : Type 0 where
  pub long : run t ≡ length (decimal n)
  pub some : 0 < run t
  pub few : run t ≤ 10
  pub first : 1 < run t → get_or t 0 0 ≡ 48 → ⊥
  pub digits : take (run t) t ≡ decimal n
  pub after : drop (run t) t ≡ rest
  pub value : value 10 (take (run t) t) ≡ n

pub number_is : (t : List ℕ) (n : ℕ) (rest : List ℕ) → Number t n rest → Is t n rest
number_is t n rest h =
    let lt : n < 2 ^ 64 = omega (arith, h.small) in
    let long : run t ≡ length (decimal n) = ap run h.whole ∙ run_digits (decimal n) rest (digits_decimal own n lt) h.ends in
    let digits : take (run t) t ≡ decimal n = ap (take (run t)) h.whole ∙ take_at (decimal n) rest (run t) (sym long) in
    record {
      long = long;
      some = omega (arith, decimal_nonempty n lt);
      few = omega (arith, length-decimal-le 10 n (omega arith) h.small lt);
      first = λ more e. ⊎_elim (λ z. omega (arith, ap (λ m. length (decimal m)) z, ap length (decimal_digit 0 (omega arith)))) (λ z. omega (arith, first_decimal n (omega (arith, ne_zero n z)) lt, sym (get_or-take (run t) t 0 0 (omega arith)), e, ap (λ l. get_or l 0 0) digits)) (cases_eq n 0);
      digits = digits;
      after = ap (drop (run t)) h.whole ∙ drop_at (decimal n) rest (run t) (sym long);
      value = ap (value 10) digits ∙ digits_value-decimal own n lt;
    }

-- and the run of digits is a number, if it is not too long and has no zero in front
pub run_number : (t : List ℕ) → 0 < run t → run t ≤ 10 → (1 < run t → get_or t 0 0 ≡ 48 → ⊥) → Number t (value 10 (take (run t) t)) (drop (run t) t)
run_number t some few lead =
    let f = front t in
    let n = value 10 (take (run t) t) in
    let long : length (take (run t) t) ≡ run t = length-take-le (run t) t f.within in
    let lt : value 10 (take (run t) t) < 10000000000 = digits_value_short own (take (run t) t) 10 f.all (omega arith) in
    record {
      small = lt;
      whole = sym (take-append-drop (run t) t) ∙ ap (λ ds. ds ++ drop (run t) t) (sym (decimal-digits_value own (take (run t) t) f.all (omega arith) (λ e. ⊎_elim (λ l. absurd (lead l (sym (get_or-take (run t) t 0 0 (omega arith)) ∙ e))) (λ l. omega arith) (cases_lt 1 (run t))) (omega arith)));
      ends = f.ends;
    }

pub record Done (t : List ℕ) (v : ℕ) (rest : List ℕ) : Type 0 where
  pub sound : Number t v rest
  pub only : (n : ℕ) (r : List ℕ) → Number t n r → (v ≡ n) × (rest ≡ r)

-- what is read, as the code has it: k digits, their value v, and the rest
pub done : (t : List ℕ) (k v : ℕ) (rest : List ℕ) → k ≡ run t → 0 < k → k ≤ 10 → (1 < k → get_or t 0 0 ≡ 48 → ⊥) → v ≡ value 10 (take (k - 0) t) → rest ≡ take (length t - k) (drop k t) → Done t v rest
done t k v rest count some few lead is left =
    let v-is : v ≡ value 10 (take (run t) t) = is ∙ ap (λ m. value 10 (take m t)) (omega arith) in
    let rest-is : rest ≡ drop (run t) t = left ∙ take_rest t k ∙ ap (λ m. drop m t) count in
    let whole = run_number t (omega arith) (omega arith) (λ h. lead (omega arith)) in
    record {
      sound = subst (λ r. Number t v r) (sym rest-is) (subst (λ n. Number t n (drop (run t) t)) (sym v-is) whole);
      only = λ n r h. let i = number_is t n r h in (v-is ∙ i.value, rest-is ∙ i.after);
    }
