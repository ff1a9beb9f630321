use Rattle.std.proofs.Common.{arith}
use Rattle.cell_addr.proofs.Digits.{digit_more}
use Rattle.author_ops.proofs.Fronts.{by_not}
use Rattle.author_ops.proofs.numbers.value_up_to.Goals as goal

pub returns-in-None-clause-past : goal.returns-in-None-clause-past
returns-in-None-clause-past c =
    let over = by_not (λ h. c.in-None.ensures h) in
    let more = digit_more c.args.digits.now c.loop-i.i c.requires.digits c.loop-i-test.true in
    omega (arith, over, more, c.loop-i.invariant.value)

pub loop-i-preserved : goal.loop-i-preserved
loop-i-preserved c =
    let more = digit_more c.args.digits.now c.loop-i.i c.requires.digits c.loop-i-test.true in
    let told = c.in-Some.ensures in
    record { value = omega (arith, told.1, more, c.loop-i.invariant.value); within = omega (arith, told.0, told.1) }
