use Rattle.std.proofs.Common.{arith}
use Rattle.formula_read.proofs.Values.{digit_more}
use Rattle.formula_read.proofs.leaves.number.Goals as goal

pub overflow_mul-value : goal.overflow_mul-value
overflow_mul-value c =
    let d = digit_more c.args.digits.now c.loop-digit.digit-index c.requires.numeral.1 c.loop-digit-test.true in
    omega arith

pub overflow_sub-digit : goal.overflow_sub-digit
overflow_sub-digit c = (digit_more c.args.digits.now c.loop-digit.digit-index c.requires.numeral.1 c.loop-digit-test.true).low

pub overflow_add-value : goal.overflow_add-value
overflow_add-value c =
    let d = digit_more c.args.digits.now c.loop-digit.digit-index c.requires.numeral.1 c.loop-digit-test.true in
    omega arith

pub loop-digit-preserved : goal.loop-digit-preserved
loop-digit-preserved c =
    let d = digit_more c.args.digits.now c.loop-digit.digit-index c.requires.numeral.1 c.loop-digit-test.true in
    omega arith
