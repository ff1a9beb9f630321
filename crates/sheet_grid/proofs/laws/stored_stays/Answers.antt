use Rattle.sheet_grid.proofs.NumberedPast.{stored_kept}
use Rattle.sheet_grid.proofs.laws.stored_stays.Goals as goal

pub returns : goal.returns
returns c = stored_kept
