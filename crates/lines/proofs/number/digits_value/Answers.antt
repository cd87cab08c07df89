use Rattle.std.proofs.Common.{arith}
use Rattle.std.proofs.lemmas.Int.Digits.{digits_value_more}
use Rattle.std.proofs.lemmas.Str.Parse.{digit_at}
use Rattle.lines.proofs.Runs.{small_front, value_of_digit}
use Rattle.lines.proofs.number.digits_value.Goals as goal

pub overflow_mul-n : goal.overflow_mul-n
overflow_mul-n c = omega (arith, small_front c.args.digits.now c.loop-b.b-index c.requires.1 (omega arith) (omega arith))

pub overflow_sub-b : goal.overflow_sub-b
overflow_sub-b c = (digit_at c.args.digits.now c.loop-b.b-index c.requires.1 (omega arith)).0

pub overflow_add-n : goal.overflow_add-n
overflow_add-n c = omega (
  arith,
  small_front c.args.digits.now c.loop-b.b-index c.requires.1 (omega arith) (omega arith),
  digit_at c.args.digits.now c.loop-b.b-index c.requires.1 (omega arith),
)

pub loop-b-preserved : goal.loop-b-preserved
loop-b-preserved c =
    let more = digits_value_more 10 c.args.digits.now c.loop-b.b-index (omega arith) in
    let digit = value_of_digit _ (digit_at c.args.digits.now c.loop-b.b-index c.requires.1 (omega arith)) in
    omega (arith, more, digit, c.loop-b.invariant, c.from.ensures)
