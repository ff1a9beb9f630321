use Rattle.sheet_grid.proofs.ToPositions.{placing_mapped}
use Rattle.sheet_grid.proofs.numbering.formula_placed.Goals as goal

pub rename-requires : goal.rename-requires
rename-requires c = placing_mapped c.args.rows.now c.args.cols.now c.len-rows.ensures.kept c.len-cols.ensures.kept c.in_ok-copy.copy
