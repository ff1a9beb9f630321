use Rattle.std.proofs.Common.{◌≡◌, ◌≤◌, ◌+◌, take}
use Rattle.full_calc.specs.Evaluated.{evaluated}
use Rattle.full_calc.proofs.evaluation.evaluate.Given as goal

abbrev pub invariant-loop-n : goal.invariant-loop-n
invariant-loop-n g l = record {
  size : l.grid.size ≡ l.initial.grid.size;
  count : l.steps ≤ l.initial.steps + l.n-index;
  values : l.grid ≡ evaluated l.lines.rows l.lines.cols l.nodes (take l.n-index l.order) l.initial.grid;
}
