use Rattle.sheet_grid.specs.Values.{placed_in}
use Rattle.full_calc.proofs.RowConstants.{HasRows}
use Rattle.full_calc.proofs.constants.constants.Given as goal

abbrev pub invariant-loop-row : goal.invariant-loop-row
invariant-loop-row l = HasRows (placed_in l.sheet) l.row l.grid
