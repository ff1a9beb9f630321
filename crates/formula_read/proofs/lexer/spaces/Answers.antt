use Rattle.std.proofs.Common.{arith}
use Rattle.formula_read.proofs.Stepping.{spaces_more, spaces_end}
use Rattle.formula_read.proofs.lexer.spaces.Goals as goal

pub loop-i-init : goal.loop-i-init
loop-i-init c = omega arith

pub loop-i-preserved : goal.loop-i-preserved
loop-i-preserved c = spaces_more c.args.text.now c.loop-i.i c.loop-i-test.true c.if-b-ne32.false c.loop-i.invariant

pub returns-then-b-ne32-clause-count : goal.returns-then-b-ne32-clause-count
returns-then-b-ne32-clause-count c = spaces_end c.args.text.now c.loop-i.i c.loop-i-test.true c.if-b-ne32.true c.loop-i.invariant
