use Rattle.std.proofs.Common.{◌≡◌, ◌+◌, ◌≤◌, take, drop, length}
use Rattle.sheet_ops.specs.Placed.{placed_size}
use Rattle.sheet_grid.specs.Values.{placed_in}
use Rattle.name_model.specs.InTurn.{EachFitsInTurn, StepsEach, size_past_each}
use Rattle.name_model.proofs.steps.apply_each.Given as goal

abbrev pub invariant-loop-op : goal.invariant-loop-op
invariant-loop-op l = record {
  steps : StepsEach (placed_in l.initial.sheet) (take l.op-index l.own) (placed_in l.sheet);
  size : placed_size (placed_in l.sheet) ≡ size_past_each (placed_size (placed_in l.initial.sheet)) (take l.op-index l.own);
  fits : EachFitsInTurn (placed_size (placed_in l.sheet)) (drop l.op-index l.own);
  rows : length (placed_in l.sheet).rows + length (drop l.op-index l.own) ≤ 16000;
  cols : length (placed_in l.sheet).cols + length (drop l.op-index l.own) ≤ 16000;
}
