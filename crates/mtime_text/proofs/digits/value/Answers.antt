-- One digit more.
use Rattle.std.proofs.Common.{arith}
use Rattle.mtime_text.proofs.DigitLemmas.{digit_more, power_below}
use Rattle.mtime_text.proofs.digits.value.Goals as goal

pub overflow_mul-value : goal.overflow_mul-value
overflow_mul-value c = omega (arith, power_below c.digits.digit-index (omega arith))

pub overflow_add-value : goal.overflow_add-value
overflow_add-value c =
    let more = digit_more c.args.digits.now c.digits.digit-index c.digits.value c.requires.digits c.digits-test.true c.digits.invariant.0 c.digits.invariant.1 in
    omega (arith, power_below c.digits.digit-index (omega arith))

pub digits-preserved : goal.digits-preserved
digits-preserved c =
    let more = digit_more c.args.digits.now c.digits.digit-index c.digits.value c.requires.digits c.digits-test.true c.digits.invariant.0 c.digits.invariant.1 in
    rw c.from.ensures more
