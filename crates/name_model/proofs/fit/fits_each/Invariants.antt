use Rattle.std.proofs.Common.{◌+◌, ◌≤◌, drop, length}
use Rattle.name_model.specs.InTurn.{EachFitsInTurn}
use Rattle.name_model.proofs.fit.fits_each.Given as goal

abbrev pub invariant-loop-op : goal.invariant-loop-op
invariant-loop-op l = record {
  to : EachFitsInTurn l.fn.size l.own → EachFitsInTurn l.now (drop l.op-index l.own);
  from : EachFitsInTurn l.now (drop l.op-index l.own) → EachFitsInTurn l.fn.size l.own;
  rows : l.now.rows + length (drop l.op-index l.own) ≤ 16000;
  cols : l.now.cols + length (drop l.op-index l.own) ≤ 16000;
}
