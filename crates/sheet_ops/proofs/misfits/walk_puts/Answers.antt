use Rattle.std.proofs.lemmas.Result.{err_from_is_err_and}
use Rattle.sheet_ops.specs.Misfits.{put_tests}
use Rattle.sheet_ops.proofs.FirstMisfit.{beside_more, beside_out}
use Rattle.sheet_ops.proofs.misfits.walk_puts.Goals as goal

pub returns-in_err-at : goal.returns-in_err-at
returns-in_err-at c =
    let p = err_from_is_err_and c.from_residual.result c.from_residual.ensures.1 in
    rw (p.1, p.2) (beside_out (put_tests c.args.size) 0 c.loop-i.at c.in_err-at.field-0.0 c.args.puts.now c.loop-i.i c.index-puts-i.result c.loop-i-test.true c.index-puts-i.is c.loop-i.invariant c.in_err-at.ensures)

pub loop-i-preserved : goal.loop-i-preserved
loop-i-preserved c =
    beside_more (put_tests c.args.size) 0 c.loop-i.at c.in_ok-at.at c.args.puts.now c.loop-i.i c.index-puts-i.result c.loop-i-test.true c.index-puts-i.is c.loop-i.invariant c.in_ok-at.ensures
