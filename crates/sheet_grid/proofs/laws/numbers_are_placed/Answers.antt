use Rattle.sheet_grid.proofs.NumberedPast.{placed_past}
use Rattle.sheet_grid.proofs.laws.numbers_are_placed.Goals as goal

pub returns : goal.returns
returns c V e whole fits ordered = placed_past V e whole fits ordered
