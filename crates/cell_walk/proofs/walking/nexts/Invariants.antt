use Rattle.std.proofs.Common.{◌≡◌}
use Rattle.cell_walk.specs.Walks.{cells_from}
use Rattle.cell_walk.proofs.walking.nexts.Given as goal

abbrev pub invariant-loop-cell : goal.invariant-loop-cell
invariant-loop-cell l = l.nexts.items ≡ cells_from 1 l.cell
