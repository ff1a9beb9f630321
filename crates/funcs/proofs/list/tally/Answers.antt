use Rattle.std.proofs.Common.{◌∙◌, sym, arith}
use Rattle.std.proofs.lemmas.Result.{err_from_is_err_and}
use Rattle.funcs.proofs.Found.{arg-ok, arg-err}
use Rattle.funcs.proofs.list.tally.Goals as goal

pub returns-in_err-found : goal.returns-in_err-found
returns-in_err-found g c =
    let E = g.L.Look.environment c.args.look.now in
    let p = err_from_is_err_and c.from_residual.result c.from_residual.ensures.1 in
    rw (p.1, p.2) (sym (c.loop-arg.invariant.numbers
    ∙ arg-err E c.loop-arg.found c.args.args.now c.loop-arg.arg-index c.arg-item.result c.loop-arg-test.true c.arg-item.is _ c.in_err-found.ensures.numbers))

pub loop-arg-preserved : goal.loop-arg-preserved
loop-arg-preserved g c = record {
  numbers = c.loop-arg.invariant.numbers
      ∙ arg-ok (g.L.Look.environment c.args.look.now) c.loop-arg.found c.args.args.now c.loop-arg.arg-index c.arg-item.result c.loop-arg-test.true c.arg-item.is c.in_ok-found.found c.in_ok-found.ensures.numbers;
  few = omega (arith, c.loop-arg.invariant.few, c.in_ok-found.ensures.few);
}
