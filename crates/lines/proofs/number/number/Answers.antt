use Rattle.std.proofs.Common.{◌≡◌, ◌<◌, get_or, refl, ⊎_elim, arith}
use Rattle.lines.proofs.Runs.{number_is, done}
use Rattle.lines.proofs.number.number.Goals.{else-n-gt1-via-then-n-gt1+else-text-eq-ZERO, else-n-gt1-via-else-n-gt1}
use Rattle.lines.proofs.number.number.Goals as goal

pub returns-then-n-gt-MOST_DIGITS : goal.returns-then-n-gt-MOST_DIGITS
returns-then-n-gt-MOST_DIGITS c = record {
  sound = tt;
  complete = λ n rest h.
      let i = number_is _ n rest h in
      ⊎_elim (λ p. omega (arith, p, c.digit_count-n.ensures.count, i.few)) (λ p. omega (arith, p.1, c.digit_count-n.ensures.count, i.some)) c.then-n-gt-MOST_DIGITS.either;
}

pub returns-then-text-eq-ZERO : goal.returns-then-text-eq-ZERO
returns-then-text-eq-ZERO c = record {
  sound = tt;
  complete = λ n rest h. (number_is _ n rest h).first (omega (arith, c.digit_count-n.ensures.count)) c.if-text-eq-ZERO.true;
}

pub returns : goal.returns
returns c =
    let lead : 1 < c.digit_count-n.result → get_or c.args.text.now 0 0 ≡ 48 → ⊥ =
    elim c.else-n-gt1.branch [
      | else-n-gt1-via-then-n-gt1+else-text-eq-ZERO w ↦ λ _ e. w.if-text-eq-ZERO.false e
      | else-n-gt1-via-else-n-gt1 w ↦ λ h _. omega (arith, w.if-n-gt1.false)
    ]
    in
    let d = done c.args.text.now c.digit_count-n.result c.digits_value-value.result _ c.digit_count-n.ensures.count (omega arith) (omega arith) lead c.digits_value-value.ensures refl in
    record { sound = d.sound; complete = d.only }
