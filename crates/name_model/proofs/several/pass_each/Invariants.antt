use Rattle.std.proofs.Common.{◌≡◌, ◌+◌, ◌≤◌, ◌++◌, drop, length}
use Rattle.sheet_ops.specs.Fits.{EffectFits}
use Rattle.name_model.specs.InTurn.{EachFitsInTurn, own_each_past, other_past_each}
use Rattle.name_model.proofs.several.pass_each.Given as goal

abbrev pub invariant-loop-op : goal.invariant-loop-op
invariant-loop-op l = record {
  own : own_each_past l.fn.size l.own l.other ≡ l.done ++ own_each_past l.now (drop l.op-index l.op-items) l.last;
  other : other_past_each l.fn.size l.own l.other ≡ other_past_each l.now (drop l.op-index l.op-items) l.last;
  fits : EachFitsInTurn l.now (drop l.op-index l.op-items);
  effect : EffectFits l.now l.last;
  rows : l.now.rows + length (drop l.op-index l.op-items) ≤ 16000;
  cols : l.now.cols + length (drop l.op-index l.op-items) ≤ 16000;
}
