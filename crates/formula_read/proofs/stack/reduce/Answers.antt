use Rattle.std.proofs.lemmas.Result.{err_from_is_err_and}
use Rattle.std.specs.Prelude.{reverse}
use Rattle.formula_read.specs.Stack.{reduced}
use Rattle.formula_read.proofs.Nestings.{refused_join}
use Rattle.formula_read.proofs.stack.reduce.Goals as goal

pub returns-in_err-operand : goal.returns-in_err-operand
returns-in_err-operand c =
    let p = err_from_is_err_and c.from_residual.result c.from_residual.ensures.1 in
    rw (p.1, p.2)
    (refused_join c.args.precedence c.loop-frame.operand c.in-Some.frame c.loop-frame.frames c.pop_tighter.new.frames (reduced c.args.precedence c.args.operand (reverse c.args.frames.now))
    c.in-Some.ensures.last c.in-Some.ensures.tighter c.loop-frame.invariant c.in_err-operand.field-0.0 c.in_err-operand.ensures)
