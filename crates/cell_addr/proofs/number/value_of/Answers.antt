use Rattle.std.proofs.Common.{arith}
use Rattle.cell_addr.proofs.Digits.{digit_more, digit_below}
use Rattle.cell_addr.proofs.number.value_of.Goals as goal

pub overflow_mul-value : goal.overflow_mul-value
overflow_mul-value c =
    omega (arith, digit_below c.args.digits.now c.loop-digit.digit-index c.requires.digits c.loop-digit-test.true c.requires.few, c.loop-digit.invariant)

pub overflow_add-value : goal.overflow_add-value
overflow_add-value c =
    omega (arith, digit_below c.args.digits.now c.loop-digit.digit-index c.requires.digits c.loop-digit-test.true c.requires.few, c.loop-digit.invariant)

pub loop-digit-preserved : goal.loop-digit-preserved
loop-digit-preserved c =
    rw (c.from.ensures, c.loop-digit.invariant, digit_more c.args.digits.now c.loop-digit.digit-index c.requires.digits c.loop-digit-test.true)
