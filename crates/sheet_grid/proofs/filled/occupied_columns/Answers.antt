use Rattle.sheet_grid.proofs.FilledColumns.{occupied_are}
use Rattle.sheet_grid.proofs.filled.occupied_columns.Goals as goal

pub returns : goal.returns
returns c = occupied_are c.args.cols.now c.len-2.ensures.kept c.args.cells.now c.len.ensures.ordered _ _ c.in_ok-places.ensures c.sort_unstable.ensures.permutation c.sort_unstable.ensures.sorted
